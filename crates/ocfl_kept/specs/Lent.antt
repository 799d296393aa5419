-- Values that are lent.
use Rattle.std.specs.Borrow.{Bor}

-- a value that is lent: no text and no row shows more of it
abbrev pub lent : {X : Type 0} → X → Bor X
lent x = record { ref_ptr = (0, 0); now = x }

-- What the first bytes of a reader tell of all of them, if one more is read than a cursor's text
-- can have.
use Rattle.std.proofs.Common.{◌≡◌, ◌⊎◌, inl, inr, ℕ, ◌<◌, ◌≤◌, min, length, take, Option, Some, None, IfSome, sym, subst, ◌∙◌, arith, length-take}
use Rattle.std.proofs.{lemmas.Bool.{cases_lt}, lemmas.List.{take_all}}
use Rattle.ocfl_tree.specs.Place.{Text}
pub use Rattle.ocfl_report.proofs.Inputs.{IsReadTo}
use Rattle.ocfl_report.specs.declared.input.InputStop.{InputStop}
use Rattle.ocfl_report.specs.declared.input.InputStop.TheVariants as input
use Rattle.ocfl_cursor.specs.Cursor.{Cursor}
use Rattle.ocfl_cursor.specs.Refusal.{max_text, refusal, IsTextOf, RefusedRightly}
use Rattle.ocfl_cursor.specs.Stop.{StopsRightly, unread}
use Rattle.ocfl_cursor.specs.declared.reading.CursorStop.{CursorStop}
use Rattle.ocfl_cursor.specs.declared.reading.CursorStop.TheVariants.{Read as Fails, Refused as Refuses}
use Rattle.ocfl_cursor.specs.declared.refused.Refused.{Refused}
use Rattle.ocfl_cursor.specs.declared.refused.Refused.TheVariants.{NotA, Version, Damaged, Malformed, Memory}
use Rattle.ocfl_cursor.specs.declared.refused.TextKind.TheVariants as kind
use Rattle.ocfl_cursor.proofs.CursorTexts.{length-text}
use Rattle.ocfl_cursor.proofs.Refusals.{first_or_memory, refused_not_cursor, too_long}

-- how many bytes are read at most
abbrev pub limit : ℕ
limit = 262145

-- what is read is a cursor's text only if it is all
IsTextOf-limited : (b : Text) (c : Cursor) → IsTextOf (take limit b) c → IsTextOf b c
IsTextOf-limited b c h =
    let short : min limit (length b) < 196000 = read-short in
    subst (λ t. IsTextOf t c) (take_all limit b (omega (arith, short))) h
  where
    read-short : min limit (length b) < 196000
    read-short = omega (arith, length-take limit b, length-text (take limit b) c h)

-- what is refused stops the reading of it
stops_as_refused : (b : Text) (why : Refused) → RefusedRightly b why → StopsRightly b (Refuses why)
stops_as_refused b (NotA t) h = h
stops_as_refused b Version h = h
stops_as_refused b Damaged h = h
stops_as_refused b Malformed h = h
stops_as_refused b Memory h = tt

-- what is read is refused for the same reason as all of it
StopsRightly-limited : (b : Text) (why : Refused) → RefusedRightly (take limit b) why → StopsRightly b (Refuses why)
StopsRightly-limited b why h = by (cases_lt limit (length b))
  where
    long : limit < length b → (why ≡ Memory) ⊎ ((why ≡ refusal (take limit b)) × ((c : Cursor) × IsTextOf (take limit b) c → ⊥)) → StopsRightly b (Refuses why)
    long l (inl e) = subst (λ w. StopsRightly b (Refuses w)) (sym e) tt
    long l (inr k) =
        let part : max_text < length (take limit b) = omega (arith, length-take limit b) in
        let same : NotA kind.Cursor ≡ why = (refused_not_cursor (take limit b) (too_long (take limit b) part)).0 ∙ sym k.0 in
        subst (λ w. StopsRightly b (Refuses w)) same (refused_not_cursor b (too_long b (omega arith)))

    by : (limit < length b) ⊎ (length b ≤ limit) → StopsRightly b (Refuses why)
    by (inr l) = stops_as_refused b why (subst (λ t. RefusedRightly t why) (take_all limit b l) h)
    by (inl l) = long l (first_or_memory _ _ why h)

-- ---- of a reader's bytes, if they are known

-- the bytes that were read are the first of those
abbrev pub IsRead : Option Text → Text → Type 0
IsRead known read = IsReadTo limit known read

pub IsTextOf-read : (known : Option Text) (read : Text) (c : Cursor) → IsRead known read → IsTextOf read c → IfSome known (λ b. IsTextOf b c)
IsTextOf-read None read c is h = tt
IsTextOf-read (Some b) read c is h = IsTextOf-limited b c (subst (λ t. IsTextOf t c) is h)

pub StopsRightly-read : (known : Option Text) (read : Text) (e : Refused) → IsRead known read → RefusedRightly read e → IfSome known (λ b. StopsRightly b (Refuses e))
StopsRightly-read None read e is h = tt
StopsRightly-read (Some b) read e is h = StopsRightly-limited b e (subst (λ t. RefusedRightly t e) is h)

-- what is so of any bytes if the reader fails or memory is refused is so where they were not read
pub unread_told : (P : Text → CursorStop → Type 0) → ((b : Text) → P b Fails) → ((b : Text) → P b (Refuses Memory)) → (known : Option Text) (why : InputStop) (stop : CursorStop) → stop ≡ unread why → IfSome known (λ b. P b stop)
unread_told P fails lacks None why stop e = tt
unread_told P fails lacks (Some b) input.Failed stop e = subst (P b) (sym e) (fails b)
unread_told P fails lacks (Some b) input.Memory stop e = subst (P b) (sym e) (lacks b)

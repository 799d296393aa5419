-- How a night that cannot be made is refused.
use Rattle.std.specs.Prelude.{◌≡◌, ◌⊎◌, Result, Ok, Err, Some, None, String, string_bytes, option_map}
use Rattle.std.specs.declared.alloc.{AllocError.{AllocError}, Global.{Global}}
use Rattle.ocfl_tree.specs.Place.{Text}
use Rattle.ocfl_files.specs.declared.failing.Failure.{Failure}

-- memory was refused, which has status 3 and no text
abbrev pub out_of_memory : Failure
out_of_memory = record { status = 3; text = None }

-- that a command line cannot be followed has status 2 and its text; there may have been no memory for it
abbrev pub IsRefusal : Result (String Global) AllocError → Failure → Type 0
IsRefusal (Ok text) f = (f.status ≡ 2) × (f.text ≡ Some text)
IsRefusal (Err why) f = f ≡ out_of_memory

-- a command line cannot be followed, for the reason in this text, or memory was refused
abbrev pub Refuses : Text → Failure → Type 0
Refuses text f = ((f.status ≡ 2) × (option_map string_bytes f.text ≡ Some text)) ⊎ (f ≡ out_of_memory)

-- the same, whatever the text says
abbrev pub IsUsage : Failure → Type 0
IsUsage f = (f.status ≡ 2) ⊎ (f ≡ out_of_memory)

-- What the first bytes of a reader tell of all of them, if one more is read than the text of
-- separators can have.
use Rattle.std.proofs.Common.{◌≡◌, ◌⊎◌, inl, inr, ℕ, ◌<◌, ◌≤◌, List, length, take, take_all, Option, Some, None, Result, Ok, Err, IfSome, IfOk, IfErr, subst, arith, length-take}
use Rattle.std.proofs.lemmas.Bool.{cases_lt}
use Rattle.ocfl_tree.specs.Place.{Text, Place}
use Rattle.ocfl_report.proofs.Inputs.{IsReadTo, all_read}
use Rattle.ocfl_separators.specs.Separators.{AreSeparators, parts_text}
use Rattle.ocfl_separators.specs.Parts.{max_separators, max_bytes, IsPartsText, IsBadLine, HasMoreLines}
use Rattle.ocfl_separators.specs.{Stop.{StopsRightly, LinesStop}, declared.reading.PartsStop.{PartsStop}}
use Rattle.ocfl_separators.specs.declared.reading.PartsStop.TheVariants.{Line, Long, Read, Memory}

-- how many bytes are read at most
abbrev pub limit : ℕ
limit = 16777217

-- the bytes that were read are the first of those
abbrev pub IsRead : Option Text → Text → Type 0
IsRead known read = IsReadTo limit known read

parts_limited : (b : Text) (ps : List Place) → IsPartsText (take limit b) ps → IsPartsText b ps
parts_limited b ps h = subst (λ t. IsPartsText t ps) (all_read limit max_bytes b (omega arith) h.short) h

-- a stop at what was read is one at all bytes
stop_limited : (b : Text) (stop : PartsStop) → StopsRightly (take limit b) stop → StopsRightly b stop
stop_limited b (Line n) h = subst (λ t. IsBadLine t n) (all_read limit max_bytes b (omega arith) h.short) h
stop_limited b Long (inl l) = inl (omega (arith, l, length-take limit b))
stop_limited b Long (inr h) = by (cases_lt limit (length b))
  where
    by : (limit < length b) ⊎ (length b ≤ limit) → (max_bytes < length b) ⊎ HasMoreLines b
    by (inl l) = inl (omega arith)
    by (inr l) = inr (subst HasMoreLines (take_all limit b l) h)
stop_limited b Read h = tt
stop_limited b Memory h = tt

-- ---- of a reader's bytes, if they are known

pub parts_read : (known : Option Text) (read : Text) (ps : List Place) → IsRead known read → IsPartsText read ps → IfSome known (λ b. IsPartsText b ps)
parts_read None read ps is h = tt
parts_read (Some b) read ps is h = parts_limited b ps (subst (λ t. IsPartsText t ps) is h)

pub stop_read : (known : Option Text) (read : Text) (stop : PartsStop) → IsRead known read → StopsRightly read stop → IfSome known (λ b. StopsRightly b stop)
stop_read None read stop is h = tt
stop_read (Some b) read stop is h = stop_limited b stop (subst (λ t. StopsRightly t stop) is h)

-- ---- of the lines

pub parts_of_lines : {E : Type 0} (b : Text) (r : Result (List Place) E) → length b ≤ max_bytes → IfOk r (λ ps. b ≡ parts_text ps) → IfOk r AreSeparators
    → IfOk r (λ ps. length ps ≤ max_separators) → IfOk r (λ ps. IsPartsText b ps)
parts_of_lines b (Ok ps) short e h few = record { separators = h; few = few; short = short; is = e }
parts_of_lines b (Err d) short e h few = tt

stop_of_lines : (b : Text) (stop : PartsStop) → length b ≤ max_bytes → LinesStop b stop → StopsRightly b stop
stop_of_lines b (Line n) short h = record { short = short; first = h }
stop_of_lines b Long short h = inr h
stop_of_lines b Read short h = tt
stop_of_lines b Memory short h = tt

pub stops_of_lines : {A : Type 0} (b : Text) (r : Result A PartsStop) → length b ≤ max_bytes → IfErr r (λ stop. LinesStop b stop) → IfErr r (λ stop. StopsRightly b stop)
stops_of_lines b (Ok x) short h = tt
stops_of_lines b (Err stop) short h = stop_of_lines b stop short h

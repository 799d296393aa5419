-- What a night is told, with one answer more.
use Rattle.std.proofs.Common.{◌≡◌, ℕ, ◌-◌, ◌^◌, List, [], ◌∷◌, ◌++◌, Option, map, ap, sym, ◌∙◌}
use Rattle.std.proofs.lemmas.List.{map-append}
use Rattle.std.specs.Prelude.{unwrap_or}
use Rattle.ocfl_terms.specs.Clock.{Read}
use Rattle.ocfl_plan.specs.Stopping.{Answer, Seconds, event_of}

pub told_more : (old new : List Answer) (a : Answer) → new ≡ old ++ a ∷ [] → map event_of new ≡ map event_of old ++ event_of a ∷ []
told_more old new a e = ap (map event_of) e ∙ map-append event_of old (a ∷ [])

pub read_more : (old new : List Answer) (s : Option ℕ) (n : ℕ) → new ≡ old ++ Seconds s ∷ [] → n ≡ unwrap_or s (2 ^ 64 - 1) → map event_of new ≡ map event_of old ++ Read n ∷ []
read_more old new s n e is = told_more old new (Seconds s) e ∙ ap (λ m. map event_of old ++ Read m ∷ []) (sym is)

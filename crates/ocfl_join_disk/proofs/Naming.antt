-- Which joined reports have a name.
use Rattle.std.proofs.Common.{◌≡◌, ℕ, ◌+◌, ◌==◌, ◌&&◌, ◌||◌, not, Bool, true, false, List, [], ◌∷◌, ◌++◌, Option, Some, None, refl, sym, subst, ◌∙◌, ap}
use Rattle.std.specs.Prelude.{map, if◌then◌else◌}
use Rattle.std.specs.{List.{Contains}, Option.{option_map}}
use Rattle.std.proofs.lemmas.List.{map-append}
use Rattle.std.proofs.lemmas.List.Elements.{Contains-append_left, Contains-append_right, Contains-push}
use Rattle.ocfl_tree.specs.Place.{Text}
use Rattle.ocfl_disk.specs.{Names.{ClosedName, Stored}, Disk.{has_name}}
use Rattle.ocfl_joining.specs.{Cycles.{has_put}, Missing.{numbers}, Reports.{Put}}
use Rattle.ocfl_joining.proofs.Numbers.{numbers_more}
use Rattle.ocfl_join_disk.specs.Shown.{file_if, file_named, joined_in, joined_of, put_if, text_in}

put_step : (b whole : Bool) (p : Put) (ps : List Put) → ((b && (if whole then p.whole else not p.whole)) || has_put whole ps) ≡ has_put whole (put_if b p ps)
put_step true whole p ps = refl
put_step false whole p ps = refl

named_put : (cycle : ℕ) (whole : Bool) (bytes : ℕ → Text) (names : List ClosedName) → has_name cycle whole names ≡ has_put whole (joined_of cycle bytes names)
named_put cycle whole bytes [] = refl
named_put cycle whole bytes (name ∷ names) =
    ap (λ b. ((name.cycle == cycle) && (if whole then name.whole else not name.whole)) || b) (named_put cycle whole bytes names)
    ∙ put_step (name.cycle == cycle) whole (record { whole = name.whole; bytes = bytes name.file }) (joined_of cycle bytes names)

pub has_named : (cycle : ℕ) (whole : Bool) (s : Stored) → has_name cycle whole s.names.closed ≡ has_put whole (joined_in cycle s)
has_named cycle whole s = named_put cycle whole s.bytes s.names.closed

-- ---- the one that is found is among them

same_whole : (whole is : Bool) → (if whole then is else not is) ≡ true → is ≡ whole
same_whole true true e = refl
same_whole true false e = cc
same_whole false true e = cc
same_whole false false e = refl

some_same : (t u : Text) → Some t ≡ Some u → t ≡ u
some_same t u e = cc

abbrev option_text : (ℕ → Text) → Option ℕ → Option Text
option_text bytes None = None
option_text bytes (Some file) = Some (bytes file)

-- one name more
among_step : (b d whole is : Bool) (file : ℕ) (next : Option ℕ) (bytes : ℕ → Text) (ps : List Put) (t : Text)
    → (if whole then is else not is) ≡ d → (option_text bytes next ≡ Some t → Contains ps (record { whole = whole; bytes = t }))
    → option_text bytes (file_if (b && d) file next) ≡ Some t → Contains (put_if b (record { whole = is; bytes = bytes file }) ps) (record { whole = whole; bytes = t })
among_step true true whole is file next bytes ps t e more h =
    let first : Put = record { whole = is; bytes = bytes file } in
    let same : first ≡ record { whole = whole; bytes = t } = λ i. record { whole = same_whole whole is e i; bytes = some_same (bytes file) t h i } in
    subst (λ p. Contains (first ∷ ps) p) same (Contains-append_left (first ∷ []) ps first (Contains-push [] first))
among_step true false whole is file next bytes ps t e more h = Contains-append_right ((record { whole = is; bytes = bytes file }) ∷ []) ps (record { whole = whole; bytes = t }) (more h)
among_step false d whole is file next bytes ps t e more h = more h

among_of : (cycle : ℕ) (whole : Bool) (bytes : ℕ → Text) (names : List ClosedName) (t : Text) → option_text bytes (file_named cycle whole names) ≡ Some t
    → Contains (joined_of cycle bytes names) (record { whole = whole; bytes = t })
among_of cycle whole bytes [] t h = absurd cc
among_of cycle whole bytes (name ∷ names) t h =
    among_step (name.cycle == cycle) (if whole then name.whole else not name.whole) whole name.whole name.file (file_named cycle whole names) bytes (joined_of cycle bytes names) t refl
    (among_of cycle whole bytes names t) h

pub is_among : (cycle : ℕ) (whole : Bool) (s : Stored) (t : Text) → text_in cycle whole s ≡ Some t → Contains (joined_in cycle s) (record { whole = whole; bytes = t })
is_among cycle whole s t h = among_of cycle whole s.bytes s.names.closed t (by (file_named cycle whole s.names.closed) ∙ h)
  where
    by : (file : Option ℕ) → option_text s.bytes file ≡ option_map s.bytes file
    by None = refl
    by (Some file) = refl

-- ---- the parts, one by one

pub known_more : {A : Type 0} (f : ℕ → A) (n : ℕ) → map f (numbers (n + 1)) ≡ map f (numbers n) ++ f (n + 1) ∷ []
known_more f n = ap (map f) (numbers_more n) ∙ map-append f (numbers n) ((n + 1) ∷ [])

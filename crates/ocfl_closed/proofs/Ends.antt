-- No report ends in the byte that is behind one that is not as it was closed.
use Rattle.std.proofs.Common.{◌≡◌, ℕ, List, [], ◌∷◌, ◌++◌, Bool, true, false, Option, Some, refl, sym, ap, subst, ◌∙◌, append-nil, arith}
use Rattle.std.specs.Prelude.{IfSome, not, ◌||◌}
use Rattle.std.proofs.lemmas.Bool.{false≢true}
use Rattle.ocfl_tree.specs.Place.{Text, Place}
use Rattle.ocfl_report.specs.{Line.{Line}, Text.{code_text, escape, line_text, lines_text, place_text}}
use Rattle.ocfl_compare.specs.{Compared.{IsCompared, IsReport}, Seen.{Seen}}
use Rattle.ocfl_accounts.specs.declared.pair.Pair.{Pair}
use Rattle.ocfl_closed.specs.{Files.{Files, bytes_by}, Unchanged.{IsUnchangedSince, is_before, is_unchanged}, Internal.Checked.{end_of}}

-- the last byte, and this one where there is none
abbrev last_or : ℕ → Text → ℕ
last_or d [] = d
last_or d (b ∷ t) = last_or b t

last_joined : (d : ℕ) (t u : Text) → last_or d (t ++ u) ≡ last_or (last_or d t) u
last_joined d [] u = refl
last_joined d (b ∷ t) u = last_joined b t u

-- a line ends in a line feed
last_of_line : (d : ℕ) (l : Line) → last_or d (line_text l) ≡ 10
last_of_line d l = last_joined d (code_text l.code ++ 9 ∷ place_text l.place ++ 9 ∷ escape l.detail) (10 ∷ [])

last_of_lines : (ls : List Line) → last_or 10 (lines_text ls) ≡ 10
last_of_lines [] = refl
last_of_lines (l ∷ ls) =
    last_joined 10 (line_text l) (lines_text ls) ∙ ap (λ d. last_or d (lines_text ls)) (last_of_line 10 l) ∙ last_of_lines ls

-- a report with that byte behind it is none
is_ended : (t : Text) (closed : Bool) (ls : List Line) → IsReport (t ++ end_of closed) ls → closed ≡ true
is_ended t true ls is = refl
is_ended t false ls is =
    let same : 0 ≡ 10 = sym (last_joined 10 t (0 ∷ [])) ∙ ap (last_or 10) is.is ∙ last_of_lines ls in
    absurd (omega (arith, same))

report_of : (t : Text) (closed : Bool) (ls : List Line) → IsReport (t ++ end_of closed) ls → IsReport t ls
report_of t true ls is = subst (λ u. IsReport u ls) (append-nil t) is
report_of t false ls is = absurd (false≢true (is_ended t false ls is))

-- two reports that were read to their ends, and compared
pub record AreClosed (left : List Place) (b n : Text) (before now : Bool) (Taken : List Seen → Type 0) : Type 0 where
  pub compared : IsCompared left b n Taken
  pub is_before : before ≡ true
  pub is_now : now ≡ true

are_closed : (left : List Place) (b n : Text) (before now : Bool) (Taken : List Seen → Type 0) → IsCompared left (b ++ end_of before) (n ++ end_of now) Taken → AreClosed left b n before now Taken
are_closed left b n before now Taken c = record {
  compared = record {
    before = c.before;
    now = c.now;
    is_before = report_of b before c.before c.is_before;
    is_now = report_of n now c.now c.is_now;
    taken = c.taken;
  };
  is_before = is_ended b before c.before c.is_before;
  is_now = is_ended n now c.now c.is_now;
}

-- what is known of the bytes that readers had
pub compared_closed : (left : List Place) (b n : Text) (before now : Bool) (Taken : List Seen → Type 0) (earlier later : Option Text)
    → earlier ≡ Some (b ++ end_of before) → later ≡ Some (n ++ end_of now)
    → IfSome earlier (λ x. IfSome later (λ y. IsCompared left x y Taken)) → AreClosed left b n before now Taken
compared_closed left b n before now Taken earlier later e f says =
    are_closed left b n before now Taken (subst (λ m. IfSome m (λ y. IsCompared left (b ++ end_of before) y Taken)) f (subst (λ m. IfSome m (λ x. IfSome later (λ y. IsCompared left x y Taken))) e says))

pub unchanged_since : (f : Files) (pair : Pair) (before : ℕ) → is_unchanged f before ≡ true → (not (is_before pair before) || is_unchanged f pair.closed.cycle) ≡ true → IsUnchangedSince f pair before
unchanged_since f pair before e n = (e, by (is_before pair before) n)
  where
    by : (b : Bool) → (not b || is_unchanged f pair.closed.cycle) ≡ true → b ≡ true → is_unchanged f pair.closed.cycle ≡ true
    by true n is = n
    by false n is = absurd (false≢true is)

-- of files that stay
pub later_bytes : (known : Option Text) (f g : Files) (pair : Pair) (before : ℕ) → g ≡ f → known ≡ Some (bytes_by (g.whole pair.closed.cycle) (g.incomplete pair.closed.cycle) ++ end_of (not (is_before pair before) || is_unchanged g pair.closed.cycle))
    → known ≡ Some (bytes_by (f.whole pair.closed.cycle) (f.incomplete pair.closed.cycle) ++ end_of (not (is_before pair before) || is_unchanged f pair.closed.cycle))
later_bytes known f g pair before same e =
    subst (λ h. known ≡ Some (bytes_by (h.whole pair.closed.cycle) (h.incomplete pair.closed.cycle) ++ end_of (not (is_before pair before) || is_unchanged h pair.closed.cycle))) same e

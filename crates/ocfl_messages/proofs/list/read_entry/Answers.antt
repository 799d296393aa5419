use Rattle.std.proofs.Common.{◌≡◌, ◌≢◌, List, ℕ, [], ◌∷◌, ◌++◌, codes, refl, sym, subst}
use Rattle.std.proofs.lemmas.Bool.Decides.{Decides-eqb}
use Rattle.std.proofs.lemmas.Option.{MatchOption-at_none, MatchOption-at_some}
use Rattle.std.proofs.lemmas.Slice.Eq.{strip_suffix_is}
use Rattle.std.specs.Prelude.{IsNone}
use Rattle.ocfl_report.specs.Text.{IsLineText}
use Rattle.ocfl_messages.proofs.Lists.{branch_named, none_named, same_path}
use Rattle.ocfl_messages.proofs.list.read_entry.Goals as goal

pub returns-in_default-strip_suffix-clause-missing : goal.returns-in_default-strip_suffix-clause-missing
returns-in_default-strip_suffix-clause-missing c = λ _.
    let row = c.args.row.now in
    let differs : (t : List ℕ) → row ≢ t ++ 47 ∷ [] =
    MatchOption-at_none _ _ c.in_default-strip_suffix.is (strip_suffix_is Decides-eqb row (47 ∷ []) c.strip_suffix.result c.strip_suffix.ensures.cases) in
    none_named row (c.in_ok-line.ensures.missing (subst IsNone (sym c.in_default.is) refl))
    (c.in_ok-line-2.ensures.missing (subst IsNone (sym c.in_default-2.is) refl)) (λ path f l k. differs path f)

pub returns-in-Some-3-clause-found : goal.returns-in-Some-3-clause-found
returns-in-Some-3-clause-found c =
    let row = c.args.row.now in
    let path = c.in-Some-strip_suffix.path.now in
    let cut : row ≡ path ++ 47 ∷ [] =
    MatchOption-at_some _ _ _ c.in-Some-strip_suffix.is (strip_suffix_is Decides-eqb row (47 ∷ []) c.strip_suffix.result c.strip_suffix.ensures.cases) in
    branch_named row path c.entry_of-in-Some-3.result c.in-Some-3.line c.entry_of-in-Some-3.ensures.reach c.entry_of-in-Some-3.ensures.line cut
    (MatchOption-at_some _ _ _ c.in-Some-3.is c.in_ok-line-3.ensures.found)

pub returns-in-None-clause-missing : goal.returns-in-None-clause-missing
returns-in-None-clause-missing c = λ _.
    let row = c.args.row.now in
    let path = c.in-Some-strip_suffix.path.now in
    let cut : row ≡ path ++ 47 ∷ [] =
    MatchOption-at_some _ _ _ c.in-Some-strip_suffix.is (strip_suffix_is Decides-eqb row (47 ∷ []) c.strip_suffix.result c.strip_suffix.ensures.cases) in
    none_named row (c.in_ok-line.ensures.missing (subst IsNone (sym c.in_default.is) refl))
    (c.in_ok-line-2.ensures.missing (subst IsNone (sym c.in_default-2.is) refl))
    (λ other f l k. c.in_ok-line-3.ensures.missing (subst IsNone (sym c.in-None.is) refl) l
    (subst (λ p. IsLineText (p ++ codes "\t-\n") l) (sym (same_path row path other cut f)) k))

use Rattle.std.proofs.{Common.{sym, ap, ◌∙◌, ◌++◌, ◌∷◌, []}, lemmas.List.{same_from_push}}
use Rattle.std.proofs.lemmas.Slice.Eq.{bytes_eq-Decides}
use Rattle.ocfl_tree.specs.{Place.{child_name}, Path.{names_of}}
use Rattle.ocfl_tree.proofs.{Places.{differ, child_name-append, no_child_name}, Paths.{names_once}}
use Rattle.ocfl_memory.proofs.nodes.child.Goals as goal

pub returns-then-eq : goal.returns-then-eq
returns-then-eq c =
    let same = (bytes_eq-Decides c.in_ok-parent.parent.now c.args.dir.now).0 (sym c.eq.ensures ∙ c.if-eq.true) in (
      ap (child_name (names_of c.args.dir.now)) (c.in_ok-parent.ensures.0 ∙ ap (λ d. names_of d ++ c.in_ok-parent.name.now ∷ []) same)
          ∙ child_name-append (names_of c.args.dir.now) c.in_ok-parent.name.now,
      c.in_ok-parent.ensures.1,
    )

pub returns-else-eq : goal.returns-else-eq
returns-else-eq c = no_child_name (names_of c.args.dir.now) c.args.place.now (λ n is.
    differ _ _ (bytes_eq-Decides c.in_ok-parent.parent.now c.args.dir.now) (sym c.eq.ensures ∙ c.if-eq.false)
    (names_once c.in_ok-parent.parent.now c.args.dir.now (same_from_push _ _ _ _ (sym c.in_ok-parent.ensures.0 ∙ is)).0))

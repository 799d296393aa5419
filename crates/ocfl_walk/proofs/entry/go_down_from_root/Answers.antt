use Rattle.std.proofs.Common.{◌∙◌, sym, ap, subst, length, ◌++◌, Some}
use Rattle.std.proofs.lemmas.Result.{err_from_is_err_and}
use Rattle.ocfl_item.specs.Around.{IsPart}
use Rattle.ocfl_walk.specs.Standing.{folders_from, piles_in, spot_of}
use Rattle.ocfl_walk.specs.Internal.Entering.{IsComing}
use Rattle.ocfl_walk.proofs.PlacedLaws.{folders_none}
use Rattle.ocfl_walk.proofs.EnterLaws.{coming_root, orderly_brought, orderly_start, stands_start, start_goes, start_listed, start_memory, start_unlisted}
use Rattle.ocfl_walk.proofs.entry.go_down_from_root.Goals as goal

pub go_down-requires : goal.go_down-requires
go_down-requires g c =
    let base = rw c.in-Some.is at c.in_ok-base.ensures.fair in
    let names = c.deref.ensures.value ∙ c.in_ok-names.ensures in
    let stand = c.args.stand.now in
    record {
      coming = subst (λ a. IsComing c.in-Some.base.place c.in-Some.base.entries.items (piles_in stand.last stand.listings.items) a) (sym c.requires.around)
          (coming_root c.in-Some.base.place c.in-Some.base.entries.items (folders_from 0 (spot_of stand.last) stand.listings.items) base.place
          (folders_none (spot_of stand.last) stand.listings.items c.requires.listings) base.entries);
      way = c.requires.last ∙ ap (λ x. Some x) (sym names ∙ ap (λ d. d ++ c.deref.result.now) (sym base.place));
      depth = ap length c.requires.listings ∙ sym (ap length base.place);
    }

pub returns-in_err-names-clause-told : goal.returns-in_err-names-clause-told
returns-in_err-names-clause-told g c = λ h root over.
    let p = err_from_is_err_and c.from_residual.result c.from_residual.ensures.1 in
    rw (p.1, p.2) (start_memory c.args.further root (g.T.Tree.state c.args.store.now) c.args.after.now over)

pub returns-in_err-base-clause-told : goal.returns-in_err-base-clause-told
returns-in_err-base-clause-told g c = λ h root over.
    let p = err_from_is_err_and c.from_residual-in_err-base.result c.from_residual-in_err-base.ensures.1 in
    rw (p.1, p.2) (start_unlisted c.args.further root (g.T.Tree.state c.args.store.now) (g.T.Tree.state c.known_root.new.store) c.args.after.now _ (c.in_err-base.ensures.told h root over c.args.further).gives)

pub returns-in_default : goal.returns-in_default
returns-in_default g c = record {
  last = c.requires.last;
  orderly = orderly_start c.args.stand.now c.args.after.now c.requires.listings c.requires.around c.requires.last;
  told = λ h root over.
      let k = (rw c.in_default.is at c.in_ok-base.ensures.told h root over c.args.further).gives in (
        start_listed c.args.further root (g.T.Tree.state c.args.store.now) (g.T.Tree.state c.known_root.new.store) c.args.after.now over k.0 k.1,
        stands_start c.args.further root c.args.stand.now c.args.after.now c.requires.listings c.requires.around c.requires.last k.1,
      );
}

pub returns-clause-orderly : goal.returns-clause-orderly
returns-clause-orderly g c =
    let base = rw c.in-Some.is at c.in_ok-base.ensures.fair in
    let stand = c.go_down.new.stand in
    orderly_brought c.go_down.result stand.last c.args.after.now c.in-Some.base.place c.deref.result.now (piles_in stand.last stand.listings.items) stand.around
    (c.go_down.ensures.last ∙ c.requires.last) base.place (c.deref.ensures.value ∙ c.in_ok-names.ensures) c.go_down.ensures.orderly

pub returns-clause-told : goal.returns-clause-told
returns-clause-told g c = λ h root over.
    let k = (rw c.in-Some.is at c.in_ok-base.ensures.told h root over c.args.further).gives in
    let base = rw c.in-Some.is at c.in_ok-base.ensures.fair in
    start_goes c.args.further root (g.T.Tree.state c.args.store.now) (g.T.Tree.state c.known_root.new.store) c.args.after.now over k.0 (g.T.Tree.state c.go_down.new.store)
    c.in-Some.base.place c.deref.result.now base.place (c.deref.ensures.value ∙ c.in_ok-names.ensures) c.args.stand.now c.go_down.new.stand
    c.requires.listings c.requires.around (c.go_down.ensures.last ∙ c.requires.last) c.go_down.result
    (c.go_down.ensures.told h root (k.0.tree ∙ over) k.1.here (subst (IsPart c.args.further root c.in-Some.base.place) (sym c.requires.around) k.1.zone))

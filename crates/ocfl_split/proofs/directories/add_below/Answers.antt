use Rattle.std.proofs.Common.{◌≡◌, ◌∙◌, ◌∷◌, [], sym, subst, true}
use Rattle.std.proofs.lemmas.Result.{err_from_is_err_and}
use Rattle.ocfl_report.specs.declared.further.Further.TheVariants.{Nothing}
use Rattle.ocfl_item.specs.Ways.{is_listable}
use Rattle.ocfl_split.specs.Internal.Directories.{directories_among, IsBelow}
use Rattle.ocfl_split.proofs.Below.{listing_stops, entered, adds_all, adds_none, memory_first, memory_stops}
use Rattle.ocfl_split.proofs.Entries.{among_below, names_rise}
use Rattle.ocfl_split.proofs.directories.add_below.Goals as goal

pub returns-in_err-try_clone-clause-told : goal.returns-in_err-try_clone-clause-told
returns-in_err-try_clone-clause-told g c = λ h root over l.
    let p = err_from_is_err_and c.from_residual.result c.from_residual.ensures.1 in
    rw (p.1, p.2) (memory_first root (g.T.Tree.state c.args.store.now) _ over)

pub returns-in_err-folder-clause-told : goal.returns-in_err-folder-clause-told
returns-in_err-folder-clause-told g c = λ h root over l.
    let p = err_from_is_err_and c.from_residual-in_err-folder.result c.from_residual-in_err-folder.ensures.1 in
    let stops = c.in_err-folder.ensures.told h root over Nothing (subst (λ x. is_listable root x ≡ true) (sym c.in_ok-try_clone.ensures) l) in
    rw (p.1, p.2) (listing_stops root (g.T.Tree.state c.args.store.now) (g.T.Tree.state c.list.new.store) c.args.place.now c.in_ok-try_clone.field-0
    c.in_err-folder.field-0.0 c.in_ok-try_clone.ensures stops)

pub returns-clause-fair : goal.returns-clause-fair
returns-clause-fair g c = λ fits.
    let names = names_rise _ _ c.in_ok-folder.ensures.ordinary c.sort.ensures.permutation c.sort.ensures.sorted in
    let here = c.in_ok-folder.ensures.place ∙ c.in_ok-try_clone.ensures in
    record {
      few = c.in_ok-add_among.ensures.few fits;
      places = directories_among c.in_ok-folder.folder.place c.sort.new.entries.items;
      added = c.in_ok-add_among.ensures.added fits;
      below = subst (λ x. IsBelow (x ∷ []) (directories_among c.in_ok-folder.folder.place c.sort.new.entries.items)) here (among_below c.in_ok-folder.folder.place c.sort.new.entries.items names);
    }

pub returns-clause-told : goal.returns-clause-told
returns-clause-told g c = λ h root over l.
    let enters = c.in_ok-folder.ensures.told h root over Nothing (subst (λ x. is_listable root x ≡ true) (sym c.in_ok-try_clone.ensures) l) in (
      adds_all root (g.T.Tree.state c.args.store.now) (g.T.Tree.state c.list.new.store) c.args.place.now c.in_ok-try_clone.field-0 c.in_ok-folder.folder.place
          c.in_ok-folder.folder.entries.items c.sort.new.entries.items
          c.args.room c.args.next.now.items c.add_among.new.next.items c.leads_on_from.result c.in_ok-add_among.field-0 c.in_ok-try_clone.ensures enters
          c.in_ok-folder.ensures.ordinary (c.leads_on_from.ensures root) c.if-not-leads_on_from.false
          c.sort.ensures.permutation c.sort.ensures.sorted c.in_ok-add_among.ensures.added c.in_ok-add_among.ensures.many,
      entered root (g.T.Tree.state c.args.store.now) (g.T.Tree.state c.list.new.store) c.args.place.now c.in_ok-try_clone.field-0 c.in_ok-folder.folder.place
          c.in_ok-folder.folder.entries.items over c.in_ok-try_clone.ensures enters,
    )

pub returns-then-not-leads_on_from-clause-told : goal.returns-then-not-leads_on_from-clause-told
returns-then-not-leads_on_from-clause-told g c = λ h root over l.
    let enters = c.in_ok-folder.ensures.told h root over Nothing (subst (λ x. is_listable root x ≡ true) (sym c.in_ok-try_clone.ensures) l) in (
      adds_none root (g.T.Tree.state c.args.store.now) (g.T.Tree.state c.list.new.store) c.args.place.now c.in_ok-try_clone.field-0 c.in_ok-folder.folder.place
          c.in_ok-folder.folder.entries.items c.args.room c.args.next.now.items c.leads_on_from.result c.in_ok-try_clone.ensures enters
          c.in_ok-folder.ensures.ordinary (c.leads_on_from.ensures root) c.if-not-leads_on_from.true,
      entered root (g.T.Tree.state c.args.store.now) (g.T.Tree.state c.list.new.store) c.args.place.now c.in_ok-try_clone.field-0 c.in_ok-folder.folder.place
          c.in_ok-folder.folder.entries.items over c.in_ok-try_clone.ensures enters,
    )

pub returns-in_err-add_among-clause-told : goal.returns-in_err-add_among-clause-told
returns-in_err-add_among-clause-told g c = λ h root over l.
    let p = err_from_is_err_and c.from_residual-in_err-add_among.result c.from_residual-in_err-add_among.ensures.1 in
    let enters = c.in_ok-folder.ensures.told h root over Nothing (subst (λ x. is_listable root x ≡ true) (sym c.in_ok-try_clone.ensures) l) in
    rw (p.1, p.2) (memory_stops root (g.T.Tree.state c.args.store.now) (g.T.Tree.state c.list.new.store) (c.args.place.now ∷ []) []
    (entered root (g.T.Tree.state c.args.store.now) (g.T.Tree.state c.list.new.store) c.args.place.now c.in_ok-try_clone.field-0 c.in_ok-folder.folder.place
    c.in_ok-folder.folder.entries.items over c.in_ok-try_clone.ensures enters))

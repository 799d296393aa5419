use Rattle.std.proofs.{Common.{◌≡◌, ◌∙◌, [], ap, inl, inr, subst}, lemmas.Result.{IfOk-weaker, IfErr-weaker}}
use Rattle.ocfl_tree.specs.Listing.{IsListing, entries_in}
use Rattle.ocfl_identity.specs.Identity.{declarations_among, openings_of}
use Rattle.ocfl_identity.proofs.Askings.{first_listed, list_refused, listed_alone, opened_listed, unread_listed}
use Rattle.ocfl_identity.proofs.Ordered.{sorted_listing}
use Rattle.ocfl_identity.proofs.identity.look_at_root.Goals as goal

pub returns-clause-told : goal.returns-clause-told
returns-clause-told g c = λ told root is.
    let l = c.in-Ok.ensures.lists told in
    let listing : IsListing root [] c.in-Ok.entries.items =
    subst (λ r. IsListing r [] c.in-Ok.entries.items) is (subst (λ p. IsListing (g.T.Tree.state c.args.store.now).tree p c.in-Ok.entries.items) c.root-top.ensures l.entries) in
    c.identify.ensures.told told root (l.did.tree ∙ is)
    (c.deref.ensures.value ∙ sorted_listing root [] c.in-Ok.entries.items c.sort.new.entries.items c.in-Ok.ensures.ordinary listing c.sort.ensures.permutation c.sort.ensures.sorted)

pub returns-clause-undeclared : goal.returns-clause-undeclared
returns-clause-undeclared g c = λ told root is none.
    let l = c.in-Ok.ensures.lists told in
    let listing : IsListing root [] c.in-Ok.entries.items =
    subst (λ r. IsListing r [] c.in-Ok.entries.items) is (subst (λ p. IsListing (g.T.Tree.state c.args.store.now).tree p c.in-Ok.entries.items) c.root-top.ensures l.entries) in
    subst (λ es. declarations_among es ≡ [])
    (c.deref.ensures.value ∙ sorted_listing root [] c.in-Ok.entries.items c.sort.new.entries.items c.in-Ok.ensures.ordinary listing c.sort.ensures.permutation c.sort.ensures.sorted)
    (c.identify.ensures.undeclared none)

pub returns-clause-unopened : goal.returns-clause-unopened
returns-clause-unopened g c = λ told none. listed_alone _ _ _ _ c.root-top.ensures (c.in-Ok.ensures.lists told).did (c.identify.ensures.unasked none)

pub returns-clause-opened : goal.returns-clause-opened
returns-clause-opened g c = λ told root is.
    let l = c.in-Ok.ensures.lists told in
    IfOk-weaker c.identify.result _ _ (λ id h. opened_listed _ _ _ _ _ c.root-top.ensures l.did h) (c.identify.ensures.opened told root (l.did.tree ∙ is))

pub returns-clause-unread : goal.returns-clause-unread
returns-clause-unread g c = λ told root is.
    let l = c.in-Ok.ensures.lists told in
    let listing : IsListing root [] c.in-Ok.entries.items =
    subst (λ r. IsListing r [] c.in-Ok.entries.items) is (subst (λ p. IsListing (g.T.Tree.state c.args.store.now).tree p c.in-Ok.entries.items) c.root-top.ensures l.entries) in
    let entries = c.deref.ensures.value ∙ sorted_listing root [] c.in-Ok.entries.items c.sort.new.entries.items c.in-Ok.ensures.ordinary listing c.sort.ensures.permutation c.sort.ensures.sorted in
    IfErr-weaker c.identify.result _ _ (λ why h p e. unread_listed root _ _ _ _ _ _ p c.root-top.ensures (ap declarations_among entries) l.did (h p e))
    (c.identify.ensures.unread told root (l.did.tree ∙ is) entries)

pub returns-in-Err-Memory-clause-refused : goal.returns-in-Err-Memory-clause-refused
returns-in-Err-Memory-clause-refused g c = λ told root is memory. inl (list_refused _ _ _ _ c.in-Err-Memory.field-0-is (c.in-Err-Memory.ensures.lists told))

pub returns-clause-refused : goal.returns-clause-refused
returns-clause-refused g c = λ told root is.
    let l = c.in-Ok.ensures.lists told in
    let listing : IsListing root [] c.in-Ok.entries.items =
    subst (λ r. IsListing r [] c.in-Ok.entries.items) is (subst (λ p. IsListing (g.T.Tree.state c.args.store.now).tree p c.in-Ok.entries.items) c.root-top.ensures l.entries) in
    let entries = c.deref.ensures.value ∙ sorted_listing root [] c.in-Ok.entries.items c.sort.new.entries.items c.in-Ok.ensures.ordinary listing c.sort.ensures.permutation c.sort.ensures.sorted in
    IfErr-weaker c.identify.result _ _ (λ why h memory. inr (first_listed _ _ _ _ _ _ c.root-top.ensures (ap (λ es. openings_of root (declarations_among es)) entries) l.did (h memory))) (c.identify.ensures.refused told root (l.did.tree ∙ is))

use Rattle.std.proofs.Common.{◌≡◌, List, sym, ◌∙◌, ap, subst, option_map, Option, Some, None, true, false, Bor}
use Rattle.std.specs.{Prelude.{slice_get}, List.Sorted.{IsPartitionPoint}, Ordering.{is_lt}}
use Rattle.ocfl_tree.specs.Place.{Place, place_cmp}
use Rattle.ocfl_inventory.specs.{NextPath.{next_path}, Table.{Table, Triple}}
use Rattle.ocfl_inventory.proofs.TableSearch.{found_at, first_of}
use Rattle.ocfl_inventory.proofs.table.Table.next_after.Goals as goal

pub returns-in-Some-clause-path : goal.returns-in-Some-clause-path
returns-in-Some-clause-path c =
    let at = λ (xs : List Triple). option_map (λ t. t.path) (slice_get xs c.first_above.result) in
    let high = subst (λ (xs : List Triple). IsPartitionPoint (λ t. is_lt (place_cmp c.in-Some.place.now t.path) ≡ false)
    (λ t. is_lt (place_cmp c.in-Some.place.now t.path) ≡ true) xs c.first_above.result) c.deref-in-Some.ensures.value c.first_above.ensures.found in
    c.path_at.ensures ∙ ap at c.deref.ensures.value
    ∙ found_at (λ p. is_lt (place_cmp c.in-Some.place.now p)) c.self.inside.triples.items c.first_above.result high
    ∙ ap (λ (t : Table). next_path t (Some c.in-Some.place.now)) c.self.view_is
    ∙ sym (ap (λ (o : Option (Bor Place)). next_path c.args.self.now (option_map (λ p. p.now) o)) c.in-Some.is)

pub returns-in-None-clause-path : goal.returns-in-None-clause-path
returns-in-None-clause-path c =
    c.path_at-in-None.ensures ∙ ap (λ (xs : List Triple). option_map (λ t. t.path) (slice_get xs 0)) c.deref-in-None.ensures.value
    ∙ first_of c.self.inside.triples.items
    ∙ ap (λ (t : Table). next_path t None) c.self.view_is
    ∙ sym (ap (λ (o : Option (Bor Place)). next_path c.args.self.now (option_map (λ p. p.now) o)) c.in-None.is)

use Rattle.std.proofs.Common.{◌≡◌, ◌∙◌, ap, arith, eq-eqb, sym}
use Rattle.std.proofs.lemmas.Bool.{eqb-true, false≢true}
use Rattle.ocfl_tree.specs.{Path.{names_of}, Place.{text_eq}}
use Rattle.ocfl_tree.proofs.Places.{text_eq-Decides}
use Rattle.ocfl_walk.proofs.PlacedLaws.{next_fits, next_is}
use Rattle.ocfl_walk.proofs.stand.is_next_entry.Goals as goal

pub returns-then-not-is_text : goal.returns-then-not-is_text
returns-then-not-is_text c = (
  λ t. absurd (false≢true t),
  λ e.
      let fits = next_fits c.args.last.now c.args.place.now (names_of c.in-Some-split_last.directory.now) c.in-Some-split_last.name.now c.in-Some.entry.now.name c.in-Some.names c.in-Some-split_last.ensures.0 _ (c.in-Some.ensures c.args.last.now) e in
      absurd (false≢true (c.if-not-is_text.ensures ∙ ap (text_eq c.in-Some-split_last.name.now) c.as_str.ensures.value ∙ (text_eq-Decides _ _).1 fits.0)),
)

pub returns-then-not-starts_with_path : goal.returns-then-not-starts_with_path
returns-then-not-starts_with_path c = (
  λ t. absurd (false≢true t),
  λ e.
      let fits = next_fits c.args.last.now c.args.place.now (names_of c.in-Some-split_last.directory.now) c.in-Some-split_last.name.now c.in-Some.entry.now.name c.in-Some.names c.in-Some-split_last.ensures.0 _ (c.in-Some.ensures c.args.last.now) e in
      absurd (false≢true (c.if-not-starts_with_path.ensures ∙ fits.1)),
)

pub returns : goal.returns
returns c =
    let named = (text_eq-Decides c.in-Some-split_last.name.now c.in-Some.entry.now.name).0 (ap (text_eq c.in-Some-split_last.name.now) (sym c.as_str.ensures.value) ∙ sym c.if-not-is_text.ensures) in (
      λ t.
          let same : c.saturating_sub.result ≡ c.min.result = eqb-true _ _ t in
          next_is c.args.last.now c.args.place.now (names_of c.in-Some-split_last.directory.now) c.in-Some-split_last.name.now c.in-Some.entry.now.name
          c.in-Some.names c.in-Some-split_last.ensures.0 _ (c.in-Some.ensures c.args.last.now)
          named (sym c.if-not-starts_with_path.ensures) (omega arith),
      λ e.
          let fits = next_fits c.args.last.now c.args.place.now (names_of c.in-Some-split_last.directory.now) c.in-Some-split_last.name.now c.in-Some.entry.now.name c.in-Some.names c.in-Some-split_last.ensures.0 _ (c.in-Some.ensures c.args.last.now) e in
          eq-eqb c.saturating_sub.result c.min.result (omega (arith, fits.2)),
    )

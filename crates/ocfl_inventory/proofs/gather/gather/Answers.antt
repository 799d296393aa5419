use Rattle.std.proofs.Common.{List, ap, ◌∙◌, map, true, false}
use Rattle.std.specs.Prelude.{flat_map}
use Rattle.ocfl_inventory.specs.{Notes.{conflicts}, Internal.Parts.{block_view, supported_view}}
use Rattle.ocfl_inventory.specs.Table.{Triple, triples_of}
use Rattle.ocfl_inventory.proofs.Inventories.{all_gathered, conflicts_permuted, kept_paths_of}
use Rattle.ocfl_inventory.proofs.gather.gather.Goals as goal

pub returns-clause-triples : goal.returns-clause-triples
returns-clause-triples c =
    let content = c.args.content.now in
    all_gathered (triples_of false content c.args.algorithm (block_view c.args.manifest.items)) c.in_ok-manifest.manifest.triples.items
    (flat_map (λ e. triples_of true content e.0 e.1) (supported_view c.args.fixity.items)) c.in_ok-found.found.triples.items c.in_ok-manifest.ensures.triples c.in_ok-found.ensures.triples

pub returns-clause-listed : goal.returns-clause-listed
returns-clause-listed c =
    let content = c.args.content.now in
    let manifest = block_view c.args.manifest.items in
    let paths = λ (es : List Triple). conflicts (map (λ e. e.path) es) in
    record {
      manifest_bad = c.in_ok-manifest.ensures.bad;
      fixity_bad = c.in_ok-found.ensures.bad;
      conflicting =
          c.in_ok-conflicting.ensures ∙ ap paths c.deref.ensures.value
          ∙ conflicts_permuted (triples_of false content c.args.algorithm manifest) c.in_ok-manifest.manifest.triples.items c.in_ok-manifest.ensures.triples c.in_ok-manifest.ensures.sorted
          ∙ ap conflicts (kept_paths_of false content c.args.algorithm manifest);
    }

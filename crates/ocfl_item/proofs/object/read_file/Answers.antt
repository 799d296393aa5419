use Rattle.std.proofs.Common.{◌∙◌, ap}
use Rattle.ocfl_tree.specs.Listing.{kind_in}
use Rattle.ocfl_item.proofs.object.read_file.Goals as goal

pub returns : goal.returns
returns g c = record { told = λ h root over further listing meta. c.read_among.ensures.told h root over further (ap (λ es. kind_in es c.args.name.now) c.deref.ensures.value ∙ listing.each c.args.name.now) meta }

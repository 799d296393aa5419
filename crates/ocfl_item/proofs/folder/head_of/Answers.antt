use Rattle.ocfl_item.proofs.LooksCalls.{head_is}
use Rattle.ocfl_item.proofs.folder.head_of.Goals as goal

pub returns : goal.returns
returns c = head_is c.args.level _ c.args.folder.now.entries.items c.declaration.result c.head_by.result c.deref.ensures.value c.declaration.ensures.declared
    c.declaration.ensures.unknown c.head_by.ensures

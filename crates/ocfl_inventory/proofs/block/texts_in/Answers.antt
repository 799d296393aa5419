use Rattle.ocfl_inventory.proofs.Blocks.{texts_found, texts_missing}
use Rattle.ocfl_inventory.proofs.block.texts_in.Goals as goal

pub returns-then-are_texts : goal.returns-then-are_texts
returns-then-are_texts c = texts_found _ c.in_ok-values.values _ _ _ c.are_texts.ensures c.deref.ensures.value c.in_ok-values.was c.array.ensures c.if-are_texts.true

pub returns-else-are_texts : goal.returns-else-are_texts
returns-else-are_texts c = texts_missing _ c.in_ok-values.values _ _ _ c.are_texts.ensures c.deref.ensures.value c.in_ok-values.was c.array.ensures c.if-are_texts.false

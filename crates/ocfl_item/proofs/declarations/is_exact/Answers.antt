use Rattle.ocfl_item.proofs.HeadLaws.{exact_by}
use Rattle.ocfl_item.proofs.declarations.is_exact.Goals as goal

pub returns-in-Some : goal.returns-in-Some
returns-in-Some c = λ root d h. exact_by root d c.args.level c.args.version c.args.declaration.now c.in-Some.file c.declaration_bytes.result.now
    c.is_file.result c.in-Some.is c.declaration_bytes.ensures c.is_file.ensures h

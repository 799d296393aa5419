use Rattle.std.proofs.Common.{codes}
use Rattle.ocfl_files.specs.Failing.{file_line}
use Rattle.ocfl_files.proofs.Failures.{on_file, saying_so}
use Rattle.ocfl_files.proofs.making.own_folder.Goals as goal

pub returns-clause-refused : goal.returns-clause-refused
returns-clause-refused c = saying_so c.line_on.result c.saying.result (file_line c.args.path.now (codes "is not a folder")) c.saying.ensures c.line_on.ensures

pub returns-clause-said : goal.returns-clause-said
returns-clause-said c = on_file c.args.path.now (codes "is not a folder") c.saying.result (saying_so c.line_on.result c.saying.result (file_line c.args.path.now (codes "is not a folder")) c.saying.ensures c.line_on.ensures)

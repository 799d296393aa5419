-- What is said of a state folder.
use Rattle.std.proofs.Common.{◌≡◌, ◌++◌, Option, Some, None, codes, sym, ap, subst}
use Rattle.ocfl_tree.specs.Place.{Text}
use Rattle.ocfl_disk.specs.declared.state_file.Reason.{Reason}
use Rattle.ocfl_files.specs.Failing.{StopsOn, stopped_status}
use Rattle.ocfl_files.specs.declared.failing.Failure.{Failure}
use Rattle.ocfl_kept.specs.Refusing.{AreWordsOf, SaysFailure}

-- a call that failed stopped the command
pub failure_stops : (state : Text) (reason : Option Reason) (f : Failure) → SaysFailure state reason f → f.status ≡ stopped_status
failure_stops state None f h = h.status
failure_stops state (Some r) f h = h.2.status

pub file_stops : (path : Text) (f : Failure) → StopsOn path f → f.status ≡ stopped_status
file_stops path f h = h.1.status

-- the words on a call, by the file and the system's words
pub words_so : (o : Option Reason) (r : Reason) (said file words : Text) → o ≡ Some r → said ≡ file ++ (codes ": " ++ words) → AreWordsOf o (Some said)
words_so o r said file words e is = subst (λ (p : Option Reason). AreWordsOf p (Some said)) (sym e) (file, words, ap Some is)

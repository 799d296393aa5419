use Rattle.ocfl_night_laws.proofs.{Around.{wrote_around}, Missing.{written_or_left}}
use Rattle.ocfl_night_laws.proofs.nights.what_is_left_out_is_missing_alone.Goals as goal

pub returns-clause-wrote : goal.returns-clause-wrote
returns-clause-wrote c = λ further root part first last runs left led one read. wrote_around further root part first last runs left led one read

pub returns-clause-missing : goal.returns-clause-missing
returns-clause-missing c = λ further root part from left next i v is. written_or_left further root part from left next i v is

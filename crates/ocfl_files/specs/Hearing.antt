-- A reader whose bytes are digested while they are read.
use Rattle.ocfl_tree.specs.Place.{Text}
use Rattle.sha2.specs.Hashers.{Holds256}
use Rattle.ocfl_files.specs.declared.heard.Heard.{Heard}

-- just these bytes were read through it
abbrev pub HasHeard : {F : Type 0} → Heard F → Text → Type 0
HasHeard heard text = Holds256 heard.hasher text

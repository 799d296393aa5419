-- A word that reports write so stays.
use Rattle.std.proofs.Common.{◌≡◌, inl}
use Rattle.ocfl_tree.specs.{Name.{IsPlace}, Place.{Text, Place}}
use Rattle.ocfl_report.specs.Text.{place_text}
use Rattle.ocfl_terminal.specs.Paths.{Stays}

pub stays_reported : (word : Text) (place : Place) → IsPlace place → word ≡ place_text place → Stays word
stays_reported word place names is = inl (place, names, is)

-- Worked cases: which changes are news.
use Rattle.std.proofs.Common.{◌≡◌, Bool, [], ◌∷◌, codes, refl, true, false, None}
use Rattle.ocfl_report.specs.declared.code.Code.TheVariants.{E092}
use Rattle.ocfl_compare.specs.declared.change.Change.{Change}
use Rattle.ocfl_compare.specs.declared.change.Change.TheVariants.{Gone, Undeclared, FileGone, Unlooked, Found, Repaired, Missing, Rewritten, WentBack, NewVersion}
use Rattle.ocfl_words.specs.{Counted.{is_news}, Noted.{noted}}

-- whether a change of a file is news, if its finding is known or not
abbrev is_news_of : Change → Bool → Bool
is_news_of change known = is_news (noted (record { place = codes "o" ∷ codes "f" ∷ []; change = change }) None known)

-- what is gone is news, but for files that nobody looked for
losses_are_news : (is_news_of Gone false ≡ true) × (is_news_of Undeclared false ≡ true) × (is_news_of FileGone false ≡ true) × (is_news_of Missing false ≡ true)
    × (is_news_of Unlooked false ≡ false)
losses_are_news = (refl, refl, refl, refl, refl)

-- a finding is news if it is not known, and what is repaired is none
findings_that_are_news : (is_news_of (Found E092) false ≡ true) × (is_news_of (Found E092) true ≡ false) × (is_news_of (Repaired E092) false ≡ false)
findings_that_are_news = (refl, refl, refl)

-- another root inventory is news, but not with a newer version
inventories_that_are_news : (is_news_of Rewritten false ≡ true) × (is_news_of WentBack false ≡ true) × (is_news_of NewVersion false ≡ false)
inventories_that_are_news = (refl, refl, refl)

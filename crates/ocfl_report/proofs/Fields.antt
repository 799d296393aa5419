-- The fields of a line: what is between its tabs, and before its line feed.
use Rattle.std.proofs.Common.{◌≡◌, ◌≢◌, [], ◌∷◌, ◌++◌, All, sym, ap, subst, ◌∙◌, append_assoc}
use Rattle.std.proofs.lemmas.List.{append_cancel_right}
use Rattle.ocfl_tree.specs.Place.{Text}
use Rattle.ocfl_report.proofs.Separators.{separator_is_there, second_is_there}

-- what is before the line feed of a line with these fields
line_of_fields : (bytes line code place detail : Text) → bytes ≡ line ++ 10 ∷ [] → bytes ≡ code ++ 9 ∷ place ++ 9 ∷ detail ++ 10 ∷ [] → line ≡ code ++ 9 ∷ (place ++ 9 ∷ detail)
line_of_fields bytes line code place detail e f =
    append_cancel_right line (code ++ 9 ∷ place ++ 9 ∷ detail) (10 ∷ []) (sym e ∙ f) ∙ append_assoc code (9 ∷ place) (9 ∷ detail)

-- without a tab there are no fields
pub no_fields_without_tab : (bytes line : Text) → bytes ≡ line ++ 10 ∷ [] → All (λ b. b ≢ 9) line → (code place detail : Text) → bytes ≢ code ++ 9 ∷ place ++ 9 ∷ detail ++ 10 ∷ []
no_fields_without_tab bytes line e none code place detail f =
    separator_is_there 9 code (place ++ 9 ∷ detail) (subst (All (λ b. b ≢ 9)) (line_of_fields bytes line code place detail e f) none)

-- nor are there with one tab alone
pub no_fields_with_one_tab : (bytes line first rest : Text) → bytes ≡ line ++ 10 ∷ [] → line ≡ first ++ 9 ∷ rest → All (λ b. b ≢ 9) first → All (λ b. b ≢ 9) rest
    → (code place detail : Text) → bytes ≢ code ++ 9 ∷ place ++ 9 ∷ detail ++ 10 ∷ []
no_fields_with_one_tab bytes line first rest e split before none code place detail f =
    second_is_there 9 first code rest place detail before none (sym split ∙ line_of_fields bytes line code place detail e f)

-- what is split at two tabs and before a line feed has these fields
pub fields_from_parts : (bytes line code rest place detail : Text) → bytes ≡ line ++ 10 ∷ [] → line ≡ code ++ 9 ∷ rest → rest ≡ place ++ 9 ∷ detail → bytes ≡ code ++ 9 ∷ place ++ 9 ∷ detail ++ 10 ∷ []
fields_from_parts bytes line code rest place detail e f g =
    e ∙ ap (λ t. t ++ 10 ∷ []) (f ∙ ap (λ t. code ++ 9 ∷ t) g ∙ sym (append_assoc code (9 ∷ place) (9 ∷ detail)))

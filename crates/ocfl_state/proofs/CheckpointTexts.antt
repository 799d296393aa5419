-- The text of a checkpoint determines the checkpoint.
use Rattle.std.proofs.Common.{◌≡◌, ℕ, ◌^◌, ◌<◌, ◌≤◌, List, [], ◌∷◌, ◌++◌, get_or, IfSome, All, length, codes, decimal, flat_map, refl, sym, ap, ◌∙◌, append-nil, append_assoc, arith}
use Rattle.std.proofs.lemmas.Bool.{eqb-false}
use Rattle.std.proofs.{lemmas.Grind.{flat_map-append}, lemmas.List.{append_cancel_left}}
use Rattle.std.proofs.lemmas.List.Elements.{All-head, All-tail}
use Rattle.hex.specs.Hex.{encode_lower}
use Rattle.ocfl_tree.specs.Place.{Text}
use Rattle.ocfl_report.specs.Text.{place_text}
use Rattle.ocfl_report.specs.declared.further.Further.{Further}
use Rattle.ocfl_report.specs.declared.further.Further.TheVariants.{Nothing, Inventories}
use Rattle.ocfl_report.proofs.PlaceTexts.{place_text_determines}
use Rattle.ocfl_cursor.specs.{Cursor.{IsCursor}, Part.{AreEnds}, Sealed.{with_seal}}
use Rattle.ocfl_cursor.specs.Lines.{stored_lines}
use Rattle.ocfl_cursor.proofs.{Seals.{sealed_determines}, StoredLines.{stored_lines_determine}}
use Rattle.ocfl_state.specs.Checkpoint.{Checkpoint, IsDigest, IsRoot, AreNames, IsMark, IsLeft, IsCheckpoint, path_text, names_text, phase_text, yes_or_no, stood_text, left_text, checkpoint_first_line, checkpoint_body, IsCheckpointText}
use Rattle.ocfl_state.specs.CheckpointLines.{field_line, sizes_text, standing_text, IsStanding, mark_text, account_text, IsAccount, body_text, OneLine, left_fields, standing_of, account_of, ArePartsOf, IsBodyOf}
use Rattle.ocfl_state.specs.declared.checkpoint_account.Standing.{Standing}
use Rattle.ocfl_state.specs.declared.checkpoint_account.Account.{Account}
use Rattle.ocfl_state.specs.declared.checkpoint_parts.ReportMark.{ReportMark}
use Rattle.ocfl_state.specs.declared.checkpoint_parts.Left.{Left}
use Rattle.ocfl_state.proofs.CheckpointFields.{field_determines, count_one_line, count_determines, digest_one_line, digest_determines, names_one_line, names_determine, phase_one_line, phase_determines, whole_one_line, whole_determines, sizes_one_line, sizes_determine, place_one_line, path_one_line, path_determines, stood_one_line, stood_determines}

-- ---- lines: what they tell is the same if they are, and so is what follows them

pub digest_line_determines : (front d e r s : Text) → IsDigest d → IsDigest e → field_line front (encode_lower d) r ≡ field_line front (encode_lower e) s → (d ≡ e) × (r ≡ s)
digest_line_determines front d e r s h k f =
    let parts = field_determines front (encode_lower d) (encode_lower e) r s (digest_one_line d h) (digest_one_line e k) f in
    (digest_determines d e h k parts.0, parts.1)

pub count_line_determines : (front : Text) (m n : ℕ) (r s : Text) → m < 2 ^ 64 → n < 2 ^ 64 → field_line front (decimal m) r ≡ field_line front (decimal n) s → (m ≡ n) × (r ≡ s)
count_line_determines front m n r s h k e =
    let parts = field_determines front (decimal m) (decimal n) r s (count_one_line m h) (count_one_line n k) e in
    (count_determines m n h k parts.0, parts.1)

-- the size of the report in one line
pub record SameSizes (m n m' n' : ℕ) (r s : Text) : Type 0 where
  pub bytes : m ≡ m'
  pub lines : n ≡ n'
  pub rest : r ≡ s

pub sizes_line_determines : (front : Text) (m n m' n' : ℕ) (r s : Text) → m < 2 ^ 64 → n < 2 ^ 64 → m' < 2 ^ 64 → n' < 2 ^ 64
    → field_line front (sizes_text m n) r ≡ field_line front (sizes_text m' n') s → SameSizes m n m' n' r s
sizes_line_determines front m n m' n' r s h k h' k' e =
    let parts = field_determines front (sizes_text m n) (sizes_text m' n') r s (sizes_one_line m n h k) (sizes_one_line m' n' h' k') e in
    let same = sizes_determine m n m' n' h k h' k' parts.0 in
    record { bytes = same.0; lines = same.1; rest = parts.1 }

-- ---- the first line

-- the digit of a version is the byte after the front
abbrev version_digit : Further → ℕ
version_digit Nothing = 49
version_digit Inventories = 50

digit_of_line : (f : Further) (r : Text) → get_or (checkpoint_first_line f ++ r) 22 0 ≡ version_digit f
digit_of_line Nothing r = refl
digit_of_line Inventories r = refl

same_digits : (f g : Further) → version_digit f ≡ version_digit g → f ≡ g
same_digits Nothing Nothing e = refl
same_digits Nothing Inventories e = absurd (eqb-false 49 50 refl e)
same_digits Inventories Nothing e = absurd (eqb-false 50 49 refl e)
same_digits Inventories Inventories e = refl

-- what it tells is the same if texts begin with it, and so is what follows
pub first_line_determines : (f g : Further) (r s : Text) → checkpoint_first_line f ++ r ≡ checkpoint_first_line g ++ s → (f ≡ g) × (r ≡ s)
first_line_determines f g r s e =
    let same : f ≡ g = same_digits f g (sym (digit_of_line f r) ∙ ap (λ t. get_or t 22 0) e ∙ digit_of_line g s) in
    (same, append_cancel_left (checkpoint_first_line g) r s (ap (λ h. checkpoint_first_line h ++ r) (sym same) ∙ e))

-- a text without either line has none
pub no_first_line : (body : Text) → ((r : Text) → body ≡ checkpoint_first_line Inventories ++ r → ⊥) → ((r : Text) → body ≡ checkpoint_first_line Nothing ++ r → ⊥)
    → (f : Further) (r : Text) → body ≡ checkpoint_first_line f ++ r → ⊥
no_first_line body two one Nothing r e = one r e
no_first_line body two one Inventories r e = two r e

-- what follows it in a body
pub after_first_line : (f g : Further) (p : Text) (s : Standing) (a : Account) (u body lines : Text) → body ≡ checkpoint_first_line f ++ lines → body ≡ body_text g p s a u
    → lines ≡ field_line (codes "root ") p (standing_text s (account_text a u))
after_first_line f g p s a u body lines e h = (first_line_determines f g lines _ (sym e ∙ h)).1

-- ---- the lines with a fixed number

pub standing_determines : (s t : Standing) (q r : Text) → IsStanding s → IsStanding t → standing_text s q ≡ standing_text t r → (s ≡ t) × (q ≡ r)
standing_determines s t q r h k e =
    let first = digest_line_determines (codes "declared ") s.declared t.declared _ _ h.declared k.declared e in
    let second = field_determines (codes "names ") (names_text s.names) (names_text t.names) _ _ (names_one_line s.names h.names) (names_one_line t.names k.names) first.1 in
    let third = field_determines (codes "phase ") (phase_text s.phase) (phase_text t.phase) _ _ (phase_one_line s.phase) (phase_one_line t.phase) second.1 in
    let fourth = field_determines (codes "whole ") (yes_or_no s.whole) (yes_or_no t.whole) q r (whole_one_line s.whole) (whole_one_line t.whole) third.1 in
    let names = names_determine s.names t.names h.names k.names second.0 in
    let phase = phase_determines s.phase t.phase third.0 in
    let whole = whole_determines s.whole t.whole fourth.0 in
    ((λ i. record { declared = first.0 i; names = names i; phase = phase i; whole = whole i }), fourth.1)

pub mark_determines : (m n : ReportMark) (r s : Text) → IsMark m → IsMark n → mark_text m r ≡ mark_text n s → (m ≡ n) × (r ≡ s)
mark_determines m n r s h k e =
    let first = sizes_line_determines (codes "report ") m.bytes m.lines n.bytes n.lines _ _ h.bytes h.lines k.bytes k.lines e in
    let second = digest_line_determines (codes "pieces ") m.pieces n.pieces _ _ h.pieces k.pieces first.rest in
    let third = digest_line_determines (codes "tail ") m.tail n.tail r s h.tail k.tail second.1 in
    ((λ i. record { bytes = first.bytes i; lines = first.lines i; pieces = second.0 i; tail = third.0 i }), third.1)

pub account_determines : (a b : Account) (r s : Text) → IsAccount a → IsAccount b → account_text a r ≡ account_text b s → (a ≡ b) × (r ≡ s)
account_determines a b r s h k e =
    let first = mark_determines a.report b.report _ _ h.report k.report e in
    let second = count_line_determines (codes "told ") a.said b.said _ _ h.said k.said first.1 in
    let third = count_line_determines (codes "left ") a.left b.left r s h.left k.left second.1 in
    ((λ i. record { report = first.0 i; said = second.0 i; left = third.0 i }), third.1)

-- the parts of the text before the last line
pub record SameParts (f g : Further) (p q : Text) (s t : Standing) (a b : Account) (u v : Text) : Type 0 where
  pub further : f ≡ g
  pub path : p ≡ q
  pub standing : s ≡ t
  pub account : a ≡ b
  pub rest : u ≡ v

pub parts_determine : (f g : Further) (p q : Text) (s t : Standing) (a b : Account) (u v : Text) → OneLine p → OneLine q → IsStanding s → IsStanding t → IsAccount a → IsAccount b
    → body_text f p s a u ≡ body_text g q t b v → SameParts f g p q s t a b u v
parts_determine f g p q s t a b u v op oq hs ht ha hb e =
    let first = first_line_determines f g _ _ e in
    let root = field_determines (codes "root ") p q _ _ op oq first.1 in
    let standing = standing_determines s t _ _ hs ht root.1 in
    let account = account_determines a b u v ha hb standing.1 in
    record { further = first.0; path = root.0; standing = standing.0; account = account.0; rest = account.1 }

-- ---- the branches that were left out

pub left_text-append : (l : Left) (r : Text) → left_text l ++ r ≡ field_line (codes "left ") (place_text l.place) (field_line [] (stood_text l.after) r)
left_text-append l r = simp append_assoc

pub left_determines : (l m : Left) (r s : Text) → IsLeft l → IsLeft m → left_text l ++ r ≡ left_text m ++ s → (l ≡ m) × (r ≡ s)
left_determines l m r s h k e =
    let whole = sym (left_text-append l r) ∙ e ∙ left_text-append m s in
    let first = field_determines (codes "left ") (place_text l.place) (place_text m.place) _ _ (place_one_line l.place h.place) (place_one_line m.place k.place) whole in
    let second = field_determines [] (stood_text l.after) (stood_text m.after) r s (stood_one_line l.after h.after) (stood_one_line m.after k.after) first.1 in
    let place = place_text_determines l.place m.place h.place k.place first.0 in
    let after = stood_determines l.after m.after h.after k.after second.0 in
    ((λ i. record { place = place i; after = after i }), second.1)

-- the lines of a branch whose parts are read
pub left_read : (text path stood rest : Text) (l : Left) → text ≡ left_fields path stood rest → path ≡ place_text l.place → stood ≡ stood_text l.after
    → text ≡ left_text l ++ rest
left_read text path stood rest l e g h = e ∙ (λ i. left_fields (g i) (h i) rest) ∙ sym (left_text-append l rest)

-- what its parts are where the text begins with its lines
pub record LeftParts (a b d : Text) (l : Left) (r : Text) : Type 0 where
  pub path : a ≡ place_text l.place
  pub stood : b ≡ stood_text l.after
  pub rest : d ≡ r

pub left_parts : (text path stood rest : Text) (l : Left) (r : Text) → OneLine path → OneLine stood → IsLeft l → text ≡ left_fields path stood rest
    → text ≡ left_text l ++ r → LeftParts path stood rest l r
left_parts text path stood rest l r one one' h e f =
    let first = field_determines (codes "left ") path (place_text l.place) (field_line [] stood rest) (field_line [] (stood_text l.after) r) one (place_one_line l.place h.place)
    (sym e ∙ f ∙ left_text-append l r) in
    let second = field_determines [] stood (stood_text l.after) rest r one' (stood_one_line l.after h.after) first.1 in
    record { path = first.0; stood = second.0; rest = second.1 }

-- one more branch at the end
pub lefts_more : (ls : List Left) (l : Left) (text rest after : Text) → text ≡ flat_map left_text ls ++ rest → rest ≡ left_text l ++ after → text ≡ flat_map left_text (ls ++ l ∷ []) ++ after
lefts_more ls l text rest after e f =
    e ∙ ap (λ t. flat_map left_text ls ++ t) f ∙ sym (append_assoc (flat_map left_text ls) (left_text l) after)
    ∙ ap (λ t. t ++ after) (ap (λ t. flat_map left_text ls ++ t) (sym (append-nil (left_text l))) ∙ sym (flat_map-append left_text ls (l ∷ [])))

-- the lines of a branch come next
pub record NextLeft (r : Text) : Type 0 where
  pub left : Left
  pub rest : Text
  pub names : IsLeft left
  pub is : r ≡ left_text left ++ rest

-- if a text begins with the lines of fewer branches than it has
pub lefts_next : (ls ms : List Left) (r s : Text) → All IsLeft ls → All IsLeft ms → length ls < length ms → flat_map left_text ls ++ r ≡ flat_map left_text ms ++ s → NextLeft r
lefts_next [] [] r s h k l e = absurd (omega (arith, l))
lefts_next [] (m ∷ ms) r s h k l e = record {
  left = m;
  rest = flat_map left_text ms ++ s;
  names = All-head IsLeft m ms k;
  is = e ∙ append_assoc (left_text m) (flat_map left_text ms) s;
}
lefts_next (n ∷ ls) [] r s h k l e = absurd (omega (arith, l))
lefts_next (n ∷ ls) (m ∷ ms) r s h k l e =
    let both = left_determines n m (flat_map left_text ls ++ r) (flat_map left_text ms ++ s) (All-head IsLeft n ls h) (All-head IsLeft m ms k)
    (sym (append_assoc (left_text n) (flat_map left_text ls) r) ∙ e ∙ append_assoc (left_text m) (flat_map left_text ms) s) in
    lefts_next ls ms r s (All-tail IsLeft n ls h) (All-tail IsLeft m ms k) (omega (arith, l)) both.1

-- if it begins with as many
pub lefts_determine : (ls ms : List Left) (r s : Text) → All IsLeft ls → All IsLeft ms → length ls ≡ length ms → flat_map left_text ls ++ r ≡ flat_map left_text ms ++ s → (ls ≡ ms) × (r ≡ s)
lefts_determine [] [] r s h k l e = (refl, e)
lefts_determine [] (m ∷ ms) r s h k l e = absurd (omega (arith, l))
lefts_determine (n ∷ ls) [] r s h k l e = absurd (omega (arith, l))
lefts_determine (n ∷ ls) (m ∷ ms) r s h k l e =
    let both = left_determines n m (flat_map left_text ls ++ r) (flat_map left_text ms ++ s) (All-head IsLeft n ls h) (All-head IsLeft m ms k)
    (sym (append_assoc (left_text n) (flat_map left_text ls) r) ∙ e ∙ append_assoc (left_text m) (flat_map left_text ms) s) in
    let rest = lefts_determine ls ms r s (All-tail IsLeft n ls h) (All-tail IsLeft m ms k) (omega (arith, l)) both.1 in
    ((λ i. both.0 i ∷ rest.0 i), rest.1)

-- ---- the text before the last line

abbrev pub rest_of : Checkpoint → Text
rest_of c = flat_map left_text c.left ++ stored_lines c.part c.cursor

pub body_parts : (c : Checkpoint) → checkpoint_body c ≡ body_text c.cursor.further (path_text c.root.path) (standing_of c) (account_of c) (rest_of c)
body_parts c = refl

pub IsStanding-of : (c : Checkpoint) → IsCheckpoint c → IsStanding (standing_of c)
IsStanding-of c h = record { declared = h.root.declared; names = h.names }

pub IsAccount-of : (c : Checkpoint) → IsCheckpoint c → IsAccount (account_of c)
IsAccount-of c h = record { report = h.report; said = omega (arith, h.said, h.report.bytes); left = h.count }

-- the parts of a body that was taken apart are those of its checkpoint
pub parts_of_body : (f : Further) (path : Text) (s : Standing) (a : Account) (rest body : Text) (c : Checkpoint) → OneLine path → IsStanding s → IsAccount a
    → body ≡ body_text f path s a rest → IsBodyOf body c → ArePartsOf f path s a rest c
parts_of_body f path s a rest body c one hs ha e h =
    let same = parts_determine f c.cursor.further path (path_text c.root.path) s (standing_of c) a (account_of c) rest (rest_of c) one (path_one_line c.root.path h.keeps.root.path)
    hs (IsStanding-of c h.keeps) ha (IsAccount-of c h.keeps) (sym e ∙ h.is ∙ body_parts c) in
    record { keeps = h.keeps; further = same.further; path = same.path; standing = same.standing; account = same.account; rest = same.rest }

-- and with such parts it is the body of the checkpoint
pub body_of_parts : (f : Further) (path : Text) (s : Standing) (a : Account) (rest body : Text) (c : Checkpoint) → body ≡ body_text f path s a rest → ArePartsOf f path s a rest c
    → IsBodyOf body c
body_of_parts f path s a rest body c e h =
    record { keeps = h.keeps; is = e ∙ (λ i. body_text (h.further i) (h.path i) (h.standing i) (h.account i) (h.rest i)) ∙ sym (body_parts c) }

-- without such parts no text is a body
pub no_body : (body : Text)
    → ((f : Further) (path : Text) (s : Standing) (a : Account) (rest : Text) → OneLine path → IsStanding s → IsAccount a → body ≡ body_text f path s a rest → ⊥) → (c : Checkpoint) → IsBodyOf body c → ⊥
no_body body none c h =
    none c.cursor.further (path_text c.root.path) (standing_of c) (account_of c) (rest_of c) (path_one_line c.root.path h.keeps.root.path) (IsStanding-of c h.keeps)
    (IsAccount-of c h.keeps) (h.is ∙ body_parts c)

-- checkpoints with the same parts are the same
pub parts_are_of_one : (f : Further) (path : Text) (s : Standing) (a : Account) (rest : Text) (c d : Checkpoint) → ArePartsOf f path s a rest c → ArePartsOf f path s a rest d → c ≡ d
parts_are_of_one f path s a rest c d h k =
    let at = path_determines c.root.path d.root.path h.keeps.root.path k.keeps.root.path (sym h.path ∙ k.path) in
    let standing : standing_of c ≡ standing_of d = sym h.standing ∙ k.standing in
    let account : account_of c ≡ account_of d = sym h.account ∙ k.account in
    let lefts = lefts_determine c.left d.left _ _ h.keeps.left k.keeps.left (ap (λ (x : Account). x.left) account) (sym h.rest ∙ k.rest) in
    let stored = stored_lines_determine c.part d.part c.cursor d.cursor h.keeps.part k.keeps.part h.keeps.cursor k.keeps.cursor lefts.1 in
    λ i. record {
      root = record { path = at i; declared = (standing i).declared };
      names = (standing i).names;
      phase = (standing i).phase;
      whole = (standing i).whole;
      report = (account i).report;
      said = (account i).said;
      left = lefts.0 i;
      part = stored.0 i;
      cursor = stored.1 i;
    }

body_determines : (body : Text) (c d : Checkpoint) → IsBodyOf body c → IsBodyOf body d → c ≡ d
body_determines body c d h k =
    let path = path_text c.root.path in
    let parts = λ (x : Checkpoint) (hx : IsBodyOf body x). parts_of_body c.cursor.further path (standing_of c) (account_of c) (rest_of c) body x
    (path_one_line c.root.path h.keeps.root.path) (IsStanding-of c h.keeps) (IsAccount-of c h.keeps) (h.is ∙ body_parts c) hx in
    parts_are_of_one c.cursor.further path (standing_of c) (account_of c) (rest_of c) c d (parts c h) (parts d k)

-- ---- the last line

-- a sealed text is a checkpoint's if what it seals is the checkpoint's body
pub IsCheckpointText-sealed : (text body : Text) (c : Checkpoint) → text ≡ with_seal (codes "sha256 ") body → IsBodyOf body c → IsCheckpointText text c
IsCheckpointText-sealed text body c e h = record { keeps = h.keeps; is = e ∙ ap (with_seal (codes "sha256 ")) h.is }

-- and only then
pub IsBodyOf-sealed : (text body : Text) (c : Checkpoint) → text ≡ with_seal (codes "sha256 ") body → IsCheckpointText text c → IsBodyOf body c
IsBodyOf-sealed text body c e h = record { keeps = h.keeps; is = sealed_determines (codes "sha256 ") refl body (checkpoint_body c) (sym e ∙ h.is) }

-- a text determines the checkpoint whose text it is
pub text_determines : (b : Text) (c d : Checkpoint) → IsCheckpointText b c → IsCheckpointText b d → c ≡ d
text_determines b c d h k =
    body_determines (checkpoint_body c) c d (IsBodyOf-sealed b (checkpoint_body c) c h.is h) (IsBodyOf-sealed b (checkpoint_body c) d h.is k)

-- ---- a checkpoint whose parts fit

pub parts_fit : (c : Checkpoint) → IsRoot c.root → AreNames c.names → IsMark c.report → All IsLeft c.left → length c.left < 2 ^ 64 → IfSome c.part AreEnds
    → IsCursor c.cursor → c.said ≤ c.report.bytes → IsCheckpoint c
parts_fit c root names report left count part cursor said =
    record { root = root; names = names; report = report; said = said; left = left; count = count; part = part; cursor = cursor }

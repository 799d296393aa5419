-- What the last line of a text seals, where the line begins with a front of seven bytes.
use Rattle.std.proofs.Common.{◌≡◌, ◌+◌, ◌-◌, ◌*◌, [], ◌∷◌, ◌++◌, ◌&&◌, true, length, take, drop, refl, sym, ap, ap₂, ◌∙◌, length-append, arith}
use Rattle.std.proofs.{lemmas.Bool.{le-leb}, lemmas.List.{take_at, drop_at}}
use Rattle.sha2.specs.Sha256.{sha256}
use Rattle.sha2.proofs.Facts256.{length-sha256}
use Rattle.hex.specs.Hex.{encode_lower, lower_digits}
use Rattle.hex.proofs.HexLemmas.{length-encode_with}
use Rattle.ocfl_tree.specs.Place.{Text}
use Rattle.ocfl_cursor.specs.Sealed.{seal_line, is_sealed_by}
use Rattle.ocfl_cursor.proofs.Texts.{same-text_eq}

module _ (front : Text) (seven : length front ≡ 7) where
  length-seal_line : (body : Text) → length (seal_line front body) ≡ 72
  length-seal_line body =
      let digits : length (encode_lower (sha256 body)) ≡ 64 = length-encode_with lower_digits (sha256 body) ∙ ap (λ n. 2 * n) (length-sha256 body) in
      omega (arith, seven, length-append front (encode_lower (sha256 body)), length-append (front ++ encode_lower (sha256 body)) (10 ∷ []), digits)

  pub length-sealed : (body : Text) → length (body ++ seal_line front body) ≡ length body + 72
  length-sealed body = omega (arith, length-append body (seal_line front body), length-seal_line body)

  -- what is sealed is the same if the whole texts are
  pub sealed_determines : (a b : Text) → a ++ seal_line front a ≡ b ++ seal_line front b → a ≡ b
  sealed_determines a b e =
      let lengths : length a ≡ length b = omega (arith, length-sealed a, length-sealed b, ap length e) in
      sym (take_at a (seal_line front a) (length b) lengths) ∙ ap (take (length b)) e ∙ take_at b (seal_line front b) (length b) refl

  -- what is followed by its last line is sealed
  pub is_sealed-sealed : (b body : Text) → b ≡ body ++ seal_line front body → is_sealed_by front b ≡ true
  is_sealed-sealed b body e =
      let whole : length b ≡ length body + 72 = ap length e ∙ length-sealed body in
      let at : length body ≡ length b - 72 = omega arith in
      let start : take (length b - 72) b ≡ body = ap (take (length b - 72)) e ∙ take_at body (seal_line front body) (length b - 72) at in
      let back : drop (length b - 72) b ≡ seal_line front body = ap (drop (length b - 72)) e ∙ drop_at body (seal_line front body) (length b - 72) at in
      ap₂ (λ r s. r && s) (le-leb 72 (length b) (omega arith)) (same-text_eq _ _ (back ∙ ap (seal_line front) (sym start)))

-- Findings that are told why their places could not be read.
use Rattle.std.proofs.Common.{◌≡◌, ℕ, ◌+◌, ◌<◌, List, [], ◌∷◌, ◌++◌, Bool, true, false, cond, Option, length, get_or, map, take, drop, refl, ap, sym, subst, ◌∙◌, arith}
use Rattle.std.proofs.lemmas.List.{drop-set-lt, drop_more, length-map, length-set, map-append, map_more, take-map, take_more_set}
use Rattle.std.specs.{Prelude.{slice_set, unwrap_or}, List.{filter}}
use Rattle.ocfl_tree.specs.Place.{Place}
use Rattle.ocfl_report.specs.Line.{Line}
use Rattle.ocfl_codes.specs.Weight.{is_weight, weight_of}
use Rattle.ocfl_codes.specs.declared.weight.Weight.{Weight}
use Rattle.ocfl_codes.specs.declared.weight.Weight.TheVariants.{Bytes, Object, Record, Position}
use Rattle.ocfl_files.specs.{Reasons.{words_on}, declared.reasons.Reasons.{Reasons}}
use Rattle.ocfl_messages.specs.{Finding.{Finding, finding_of}, Gravest.{IsFirst, by_weight, is_of_weight, most_kept, of_weight}}
use Rattle.ocfl_messages.specs.declared.{finding.Finding.{Finding as MadeFinding}, finding.FileCounts.{FileCounts}, gravest.Kept.{Kept}}
use Rattle.ocfl_speaking.specs.Speaking.{is_unread, line_with, with_reason}

-- ---- one after the other

module _ (why : Reasons) (xs ys : List MadeFinding) (i : ℕ) (old new : MadeFinding) (l : i < length xs) (is : old ≡ get_or xs i old) (now : finding_of new ≡ with_reason why (finding_of old))
    (done : map finding_of (take i xs) ≡ map (with_reason why) (map finding_of (take i ys))) (rest : drop i xs ≡ drop i ys) (same : length xs ≡ length ys) where
  lt : i < length ys
  lt = omega (arith, l, same)

  both : get_or xs i old ∷ drop (i + 1) xs ≡ get_or ys i old ∷ drop (i + 1) ys
  both = sym (drop_more xs i old l) ∙ rest ∙ drop_more ys i old lt

  first : get_or ys i old ≡ old
  first = sym (ap (λ zs. get_or zs 0 old) both) ∙ sym is

  pub rest_more : drop (i + 1) (slice_set xs i new) ≡ drop (i + 1) ys
  rest_more = drop-set-lt (i + 1) xs i new (omega arith) ∙ ap (drop 1) both

  pub done_more : map finding_of (take (i + 1) (slice_set xs i new)) ≡ map (with_reason why) (map finding_of (take (i + 1) ys))
  done_more =
      let before = map finding_of (take i ys) in
      let there : map finding_of (take (i + 1) ys) ≡ before ++ finding_of old ∷ [] = map_more finding_of ys i old lt ∙ ap (λ f. before ++ finding_of f ∷ []) first in
      ap (map finding_of) (take_more_set xs i new l) ∙ map-append finding_of (take i xs) (new ∷ []) ∙ ap (λ fs. fs ++ finding_of new ∷ []) done
      ∙ ap (λ f. map (with_reason why) before ++ f ∷ []) now ∙ sym (map-append (with_reason why) before (finding_of old ∷ [])) ∙ ap (map (with_reason why)) (sym there)

  pub length_same : length (slice_set xs i new) ≡ length ys
  length_same = length-set xs i new ∙ same

-- ---- by their weight

same_code : (why : Reasons) (l : Line) → (line_with why l).code ≡ l.code
same_code why l = by (is_unread l.code)
  where
    by : (b : Bool) → (cond b (record { code = l.code; place = l.place; detail = unwrap_or (words_on why.kept.items l.place) l.detail }) l).code ≡ l.code
    by true = refl
    by false = refl

filter_reasons : (p : Finding → Bool) (why : Reasons) (fs : List Finding) → ((f : Finding) → p (with_reason why f) ≡ p f) → filter p (map (with_reason why) fs) ≡ map (with_reason why) (filter p fs)
filter_reasons p why [] same = refl
filter_reasons p why (f ∷ fs) same =
    let rest = filter_reasons p why fs same in
    rw (same f) (by (p f) rest)
  where
    by : (b : Bool) → filter p (map (with_reason why) fs) ≡ map (with_reason why) (filter p fs)
        → cond b (with_reason why f ∷ filter p (map (with_reason why) fs)) (filter p (map (with_reason why) fs)) ≡ map (with_reason why) (cond b (f ∷ filter p fs) (filter p fs))
    by true rest = ap (λ gs. with_reason why f ∷ gs) rest
    by false rest = rest

pub of_reasons : (w : Weight) (why : Reasons) (fs : List Finding) → of_weight w (map (with_reason why) fs) ≡ map (with_reason why) (of_weight w fs)
of_reasons w why fs = filter_reasons (is_of_weight w) why fs (λ f. ap (λ c. is_weight w (weight_of c)) (same_code why f.line))

pub first_reasons : (w : Weight) (why : Reasons) (old new : Kept) (fs : List Finding) → map finding_of new.first.items ≡ map (with_reason why) (map finding_of old.first.items) → new.count ≡ old.count
    → IsFirst old (of_weight w fs) → IsFirst new (of_weight w (map (with_reason why) fs))
first_reasons w why old new fs e count h =
    let gs = of_weight w fs in
    subst (IsFirst new) (sym (of_reasons w why fs)) (
    record {
      first = e ∙ ap (map (with_reason why)) h.first ∙ sym (take-map (with_reason why) most_kept gs);
      count = λ l. count ∙ h.count (rw length-map at l) ∙ sym (length-map gs (with_reason why));
    }
    )

-- as many
pub reasons_count : (why : Reasons) (fs : List Finding) → length (by_weight (map (with_reason why) fs)) ≡ length (by_weight fs)
reasons_count why fs =
    let W = with_reason why in
    let all : by_weight (map W fs) ≡ map W (by_weight fs) =
    (λ i. ((of_reasons Bytes why fs i ++ of_reasons Object why fs i) ++ of_reasons Record why fs i) ++ of_reasons Position why fs i) ∙ simp map-append in
    ap length all ∙ length-map (by_weight fs) W

abbrev pub with_line : Option Place → Option FileCounts → Line → Finding
with_line object files l = record { line = l; object = object; files = files }

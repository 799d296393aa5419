-- What a crash may leave after each change is what it may have left before, after a step.
use Rattle.std.proofs.Common.{◌≡◌, ◌⊎◌, inl, inr, ⊎_elim, ℕ, zero, suc, ◌≤◌, ◌<◌, Bool, true, false, [], ◌∷◌, ◌++◌, length, take, drop, min, refl, sym, ◌∙◌, subst, ap, arith, length-append, append_assoc}
use Rattle.std.proofs.lemmas.List.{append-nil, take-append-drop, take_all, length-take, length-drop, take-append-le, length-replicate}
use Rattle.std.proofs.{Math.Seq.{take-append_seam, drop-length}, Math.ListN.{drop_of_length-le}}
use Rattle.ocfl_state.specs.Content.{Bytes, Content, moved}
use Rattle.ocfl_state.specs.Crash.{Begins, Same, IsPut, MayPut, IsMoved, MayMove, MayTear, After, Follows}
use Rattle.ocfl_state.specs.Memory.{Kept, IsImage, kept_whole, after_put, after_append, after_cut, after_close, after_crash, or_zeros}

-- one of two numbers is the greater, or neither is
at_most_or_more : (n m : ℕ) → (n ≤ m) ⊎ (m < n)
at_most_or_more zero m = inl (omega arith)
at_most_or_more (suc n) zero = inr (omega arith)
at_most_or_more (suc n) (suc m) = ⊎_elim (λ le. inl (omega (arith, le))) (λ lt. inr (omega (arith, lt))) (at_most_or_more n m)

-- a beginning of a beginning
begins_within : (a b c : Bytes) → Begins a b → Begins b c → Begins a c
begins_within a b c ab bc = (ab.0 ++ bc.0, bc.1 ∙ ap (λ (l : Bytes). l ++ bc.0) ab.1 ∙ append_assoc a ab.0 bc.0)

-- the first n bytes of a text begin it, even if more follow
take_begins : (n : ℕ) (xs more : Bytes) → Begins (take n xs) (take n (xs ++ more))
take_begins zero xs more = ([], refl)
take_begins (suc n) [] more = (take (suc n) more, refl)
take_begins (suc n) (x ∷ xs) more = let rest = take_begins n xs more in (rest.0, ap (λ (l : Bytes). x ∷ l) rest.1)

-- what reads show is an image
pub shown_is_image : (k : Kept) → IsImage k k.content
shown_is_image k = record {
  checkpoint = refl;
  closed = refl;
  synced = (drop k.synced k.content.report, sym (take-append-drop k.synced k.content.report));
  no_longer = omega arith;
}

-- of what is synced there is one image
pub one_image : (content c : Content) → IsImage (kept_whole content) c → c ≡ content
one_image content c image = λ i. record {
  checkpoint = image.checkpoint i;
  report = same i;
  closed = image.closed i;
}
  where
    whole : take (length content.report) content.report ≡ content.report
    whole = take_all (length content.report) content.report (omega arith)

    long : (rest : Bytes) → length (content.report ++ rest) ≤ length content.report → rest ≡ []
    long [] le = refl
    long (x ∷ rest) le = absurd (omega (arith, length-append content.report (x ∷ rest), le))

    split : c.report ≡ content.report ++ image.synced.0
    split = image.synced.1 ∙ ap (λ (l : Bytes). l ++ image.synced.0) whole

    same : c.report ≡ content.report
    same = split ∙ ap (λ (l : Bytes). content.report ++ l) (long image.synced.0 (subst (λ (l : Bytes). length l ≤ length content.report) split (omega (arith, image.no_longer)))) ∙ append-nil content.report

pub put : (bytes : Bytes) (k : Kept) → Follows (IsPut bytes) (IsImage k) (IsImage (after_put bytes k))
put bytes k c image = (
  record { checkpoint = k.content.checkpoint; report = c.report; closed = c.closed },
  record { checkpoint = refl; closed = image.closed; synced = image.synced; no_longer = image.no_longer },
  λ i. record { checkpoint = image.checkpoint i; report = c.report; closed = c.closed },
)

pub close : (cycle : ℕ) (whole : Bool) (k : Kept) → Follows (IsMoved cycle whole) (IsImage k) (IsImage (after_close cycle whole k))
close cycle whole k c image = (k.content, shown_is_image k, one_image (moved cycle whole k.content) c image)

pub sync : (k : Kept) → Follows Same (IsImage k) (IsImage (kept_whole k.content))
sync k c image = (k.content, shown_is_image k, one_image k.content c image)

pub append : (bytes : Bytes) (k : Kept) → Follows (MayTear (length k.content.report) (length (k.content.report ++ bytes))) (IsImage k) (IsImage (after_append bytes k))
append bytes k c image = by_length (at_most_or_more (length c.report) (length report))
  where
    report : Bytes
    report = k.content.report ++ bytes

    begins : Begins (take k.synced k.content.report) c.report
    begins = begins_within (take k.synced k.content.report) (take k.synced report) c.report (take_begins k.synced k.content.report bytes) image.synced

    by_length : (length c.report ≤ length report) ⊎ (length report < length c.report) → After (MayTear (length k.content.report) (length report)) (IsImage k) c
    by_length (inl le) = (
      record { checkpoint = c.checkpoint; report = take k.synced k.content.report; closed = c.closed },
      record { checkpoint = image.checkpoint; closed = image.closed; synced = ([], sym (append-nil _)); no_longer = omega (arith, length-take k.synced k.content.report) },
      record { checkpoint = refl; closed = refl; front = λ text le front. begins_within text _ c.report front begins; no_longer = omega arith },
    )
    by_length (inr more) = (
      c,
      record { checkpoint = image.checkpoint; closed = image.closed; synced = begins; no_longer = omega (arith, image.no_longer, length-append k.content.report bytes) },
      record { checkpoint = refl; closed = refl; front = λ text le front. front; no_longer = omega arith },
    )

take_of_take : (m n : ℕ) (xs : Bytes) → m ≤ n → take m (take n xs) ≡ take m xs
take_of_take zero n xs le = refl
take_of_take (suc m) zero xs le = absurd (omega arith)
take_of_take (suc m) (suc n) [] le = refl
take_of_take (suc m) (suc n) (x ∷ xs) le = ap (λ (l : Bytes). x ∷ l) (take_of_take m n xs (omega arith))

-- cut after n bytes, of which some are synced
take_both : (n synced : ℕ) (xs : Bytes) → take (min synced n) (take n xs) ≡ take n (take synced xs)
take_both n synced xs = take_of_take (min synced n) n xs (omega arith) ∙ by_order (at_most_or_more synced n)
  where
    by_order : (synced ≤ n) ⊎ (n < synced) → take (min synced n) xs ≡ take n (take synced xs)
    by_order (inl le) = ap (λ (m : ℕ). take m xs) least ∙ sym (take_all n (take synced xs) (omega (arith, length-take synced xs)))
      where
        least : min synced n ≡ synced
        least = omega (arith, le)
    by_order (inr more) = ap (λ (m : ℕ). take m xs) least ∙ sym (take_of_take n synced xs (omega (arith, more)))
      where
        least : min synced n ≡ n
        least = omega (arith, more)

-- a short beginning of two texts begins n bytes of the first
front_of_first : (n : ℕ) (first more text : Bytes) → n ≤ length first → length text ≤ n
    → Begins text (first ++ more) → Begins text (take n first)
front_of_first n first more text long le front = (
  drop (length text) (take n first),
  sym (take-append-drop (length text) (take n first)) ∙ ap (λ (l : Bytes). l ++ drop (length text) (take n first)) same,
)
  where
    shown : take (length text) (first ++ more) ≡ text
    shown = ap (take (length text)) front.1 ∙ take-append_seam text front.0

    within : take (length text) (first ++ more) ≡ take (length text) first
    within = take-append-le (length text) first more (omega (arith, le, long))

    same : take (length text) (take n first) ≡ text
    same = take_of_take (length text) n first le ∙ sym within ∙ shown

pub cut : (n : ℕ) (k : Kept) → Follows (MayTear n 0) (IsImage k) (IsImage (after_cut n k))
cut n k c image = by_length (at_most_or_more (length synced) n)
  where
    synced : Bytes
    synced = take k.synced k.content.report

    same : take (min k.synced n) (take n k.content.report) ≡ take n synced
    same = take_both n k.synced k.content.report

    begins : Begins (take n synced) c.report
    begins = (image.synced.0, image.synced.1 ∙ ap (λ (l : Bytes). l ++ image.synced.0) same)

    by_length : (length synced ≤ n) ⊎ (n < length synced) → After (MayTear n 0) (IsImage k) c
    by_length (inl le) = (
      c,
      record { checkpoint = image.checkpoint; closed = image.closed; synced = (begins.0, begins.1 ∙ ap (λ (l : Bytes). l ++ begins.0) (take_all n synced le)); no_longer = omega (arith, image.no_longer, length-take n k.content.report) },
      record { checkpoint = refl; closed = refl; front = λ text le front. front; no_longer = omega arith },
    )
    by_length (inr more) = (
      record { checkpoint = c.checkpoint; report = synced ++ drop (length synced) c.report; closed = c.closed },
      record { checkpoint = image.checkpoint; closed = image.closed; synced = (drop (length synced) c.report, refl); no_longer = omega (arith, image.no_longer, length-append synced (drop (length synced) c.report), length-drop (length synced) c.report, length-take k.synced k.content.report, length-take n k.content.report) },
      record { checkpoint = refl; closed = refl; front = λ text le front. begins_within text (take n synced) c.report (front_of_first n synced (drop (length synced) c.report) text (omega (arith, more)) le front) begins; no_longer = omega (arith, length-append synced (drop (length synced) c.report), length-drop (length synced) c.report) },
    )

-- nothing is changed, which is such a step too
pub not_torn : (n most : ℕ) (c : Content) → MayTear n most c c
not_torn n most c = record { checkpoint = refl; closed = refl; front = λ text le front. front; no_longer = omega arith }

pub may_put : (bytes : Bytes) (k : Kept) → Follows (MayPut bytes) (IsImage k) (IsImage (after_put bytes k))
may_put bytes k c image = let from = put bytes k c image in (from.0, from.1, inr from.2)

pub may_move : (cycle : ℕ) (whole : Bool) (k : Kept) → Follows (MayMove cycle whole) (IsImage k) (IsImage (after_close cycle whole k))
may_move cycle whole k c image = let from = close cycle whole k c image in (from.0, from.1, inr from.2)

pub drop_min : (n : ℕ) (xs : Bytes) → drop (min n (length xs)) xs ≡ drop n xs
drop_min n xs = by_length (at_most_or_more n (length xs))
  where
    by_length : (n ≤ length xs) ⊎ (length xs < n) → drop (min n (length xs)) xs ≡ drop n xs
    by_length (inl le) = ap (λ (m : ℕ). drop m xs) (omega (arith, le))
    by_length (inr more) = ap (λ (m : ℕ). drop m xs) (omega (arith, more)) ∙ drop-length xs ∙ sym (drop_of_length-le xs (omega (arith, more)))

no_more : (zeroed : Bool) (bytes : Bytes) → length (or_zeros zeroed bytes) ≡ length bytes
no_more true bytes = length-replicate (length bytes) 0
no_more false bytes = refl

-- what a crash leaves in memory is one of the images
pub torn_is_image : (k : Kept) (left : ℕ) (zeroed : Bool) → IsImage k (after_crash left zeroed k)
torn_is_image k left zeroed = record {
  checkpoint = refl;
  closed = refl;
  synced = (or_zeros zeroed lost, refl);
  no_longer = omega (arith, length-append (take k.synced k.content.report) (or_zeros zeroed lost), no_more zeroed lost, length-take left (drop k.synced k.content.report), length-drop k.synced k.content.report, length-take k.synced k.content.report);
}
  where
    lost : Bytes
    lost = take left (drop k.synced k.content.report)

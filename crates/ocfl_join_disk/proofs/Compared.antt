-- Comparing a joined report with the bytes that are given.
use Rattle.std.proofs.Common.{◌≡◌, ◌-◌, ◌++◌, length, drop, take, Option, Some, None, refl, sym, ◌∙◌, ap, subst, arith, append_assoc, length-append}
use Rattle.std.proofs.Math.Seq.{drop-append_seam, take-append_seam}
use Rattle.std.proofs.lemmas.List.{take-append-drop}
use Rattle.std.specs.Io.KnownBytes.{Consumes}
use Rattle.ocfl_tree.specs.Place.{Text}
use Rattle.ocfl_join_disk.specs.Comparing.{before_rest, compared_in, end_of}

length_front : (x l : Text) → length (x ++ l) - length l ≡ length x
length_front x l = omega (arith, length-append x l)

end_is : (x l : Text) → drop (length (x ++ l) - length l) (x ++ l) ≡ l
end_is x l = ap (λ n. drop n (x ++ l)) (length_front x l) ∙ drop-append_seam x l

front_is : (x l : Text) → take (length (x ++ l) - length l) (x ++ l) ≡ x
front_is x l = ap (λ n. take n (x ++ l)) (length_front x l) ∙ take-append_seam x l

-- of a text with this end bytes are taken
module _ (t l m bytes : Text) (end : l ≡ drop (length t - length l) t) (took : l ≡ bytes ++ m) where
  abbrev front : Text
  front = take (length t - length l) t ++ bytes

  all : t ≡ front ++ m
  all = sym (take-append-drop (length t - length l) t)
      ∙ ap (λ (u : Text). take (length t - length l) t ++ u) (sym end ∙ took)
      ∙ sym (append_assoc (take (length t - length l) t) bytes m)

  rest_after : m ≡ drop (length t - length m) t
  rest_after = sym (let P : Text → Type 0 = λ u. drop (length u - length m) u ≡ m in subst P (sym all) (end_is front m))

  front_after : take (length t - length m) t ≡ take (length t - length l) t ++ bytes
  front_after = let P : Text → Type 0 = λ u. take (length u - length m) u ≡ front in subst P (sym all) (front_is front m)

of_some : (l m : Text) → Some l ≡ Some m → l ≡ m
of_some l m e = cc

pub some_after : (old new : Option Text) (bytes : Text) → (old ≡ None → ⊥) → Consumes old new bytes → new ≡ None → ⊥
some_after None new bytes some took = λ e. some refl
some_after (Some l) None bytes some took = λ e. took
some_after (Some l) (Some m) bytes some took = λ e. absurd cc

pub end_after : (old new text : Option Text) (bytes : Text) → (old ≡ None → ⊥) → old ≡ end_of old text → Consumes old new bytes → new ≡ end_of new text
end_after None new text bytes some end took = absurd (some refl)
end_after (Some l) None text bytes some end took = absurd took
end_after (Some l) (Some m) None bytes some end took = absurd cc
end_after (Some l) (Some m) (Some t) bytes some end took = ap Some (rest_after t l m bytes (of_some l (drop (length t - length l) t) end) took)

pub before_after : (old new text : Option Text) (bytes : Text) → (old ≡ None → ⊥) → old ≡ end_of old text → Consumes old new bytes → before_rest new text ≡ before_rest old text ++ bytes
before_after None new text bytes some end took = absurd (some refl)
before_after (Some l) None text bytes some end took = absurd took
before_after (Some l) (Some m) None bytes some end took = absurd cc
before_after (Some l) (Some m) (Some t) bytes some end took = front_after t l m bytes (of_some l (drop (length t - length l) t) end) took

pub compared_more : {R : Type 0} (known : R → Option Text) (made : Option R) (old new : R) (text : Option Text) (bytes : Text) → made ≡ Some old
    → (known old ≡ None → ⊥) → known old ≡ end_of (known old) text → Consumes (known old) (known new) bytes → before_rest (known new) text ≡ compared_in known made text ++ bytes
compared_more known made old new text bytes is some end took = before_after (known old) (known new) text bytes some end took ∙ ap (λ m. compared_in known m text ++ bytes) (sym is)

-- Lines that settle, as they are kept.
use Rattle.std.proofs.Common.{◌≡◌, List, [], ◌∷◌, ◌++◌, All, Bool, true, false, None, Vec, Global, map, cond, sym, ap, subst, ◌∙◌, append-nil}
use Rattle.std.specs.Prelude.{◌&&◌, not}
use Rattle.std.proofs.lemmas.List.{map-append}
use Rattle.std.proofs.lemmas.List.Elements.{All-head}
use Rattle.ocfl_report.specs.Line.{Line, is_finding_code}
use Rattle.ocfl_messages.specs.{Finding.{Finding, Section, ended_after, ended_with, first_section, section_after, section_with}, Gathering.{IsGathered}}
use Rattle.ocfl_words.specs.Held.{Agrees, AreMarked, Marked, Marks, is_nil, lines_of, marked_of, put_line, settled, unmarked}
use Rattle.ocfl_words.specs.declared.marked.{MarkedLines.{MarkedLines}, Waiting.{Waiting}}
use Rattle.ocfl_words.proofs.Marking.{all_first, all_then, gathered_on}

abbrev first : Section
first = first_section None

-- a line that passes
pub passed : (old new : MarkedLines) (m : Marks) (l : Line) → (is_nil m.waiting && not (is_finding_code l.code)) ≡ true → new.waiting ≡ old.waiting
    → ((says : Line → Bool) (fs : List Finding) (s : Section) → says l ≡ false → IsGathered says old.gathering fs s → IsGathered says new.gathering (fs ++ ended_with s l) (section_with s l))
    → AreMarked old m → AreMarked new (put_line m l)
passed old new m l passes same pass h = subst (AreMarked new) (sym put) (record { waiting = ap (λ ws. map marked_of ws.items) same ∙ h.waiting; gathered = gathered })
  where
    u : List Marked
    u = unmarked l ∷ []

    put : put_line m l ≡ record { settled = m.settled ++ u; waiting = m.waiting }
    put = ap (λ b. cond b (record { settled = m.settled ++ u; waiting = m.waiting }) (record { settled = m.settled; waiting = m.waiting ++ u })) passes

    gathered : (says : Line → Bool) → All (Agrees says) (m.settled ++ u) → IsGathered says new.gathering (ended_after first (lines_of (m.settled ++ u))) (section_after first (lines_of (m.settled ++ u)))
    gathered says all =
        let ls = lines_of m.settled in
        let s = section_after first ls in
        let clean = All-head (Agrees says) (unmarked l) [] (all_then (Agrees says) m.settled u all) in
        gathered_on says new.gathering m.settled u
        (subst (λ fs. IsGathered says new.gathering (ended_after first ls ++ fs) (section_with s l)) (sym (append-nil (ended_with s l)))
        (pass says (ended_after first ls) s clean (h.gathered says (all_first (Agrees says) m.settled u all))))

-- a line that waits
pub waits : (old new : MarkedLines) (m : Marks) (w : Waiting) (l : Line) → (is_nil m.waiting && not (is_finding_code l.code)) ≡ false → marked_of w ≡ unmarked l
    → new.waiting.items ≡ old.waiting.items ++ w ∷ [] → new.gathering ≡ old.gathering → AreMarked old m → AreMarked new (put_line m l)
waits old new m w l stays is more same h = subst (AreMarked new) (sym put) (record {
  waiting = ap (map marked_of) more ∙ map-append marked_of old.waiting.items (w ∷ []) ∙ (λ i. h.waiting i ++ is i ∷ []);
  gathered = λ says all. subst (λ g. IsGathered says g (ended_after first (lines_of m.settled)) (section_after first (lines_of m.settled))) (sym same) (h.gathered says all);
})
  where
    put : put_line m l ≡ record { settled = m.settled; waiting = m.waiting ++ unmarked l ∷ [] }
    put = ap (λ b. cond b (record { settled = m.settled ++ unmarked l ∷ []; waiting = m.waiting }) (record { settled = m.settled; waiting = m.waiting ++ unmarked l ∷ [] })) stays

-- all that wait
pub settles : (old new : MarkedLines) (m : Marks) (ws : Vec Waiting Global) → ws ≡ old.waiting → new.waiting.items ≡ []
    → ((says : Line → Bool) (fs : List Finding) (s : Section) → All (Agrees says) (map marked_of ws.items) → IsGathered says old.gathering fs s
    → IsGathered says new.gathering (fs ++ ended_after s (lines_of (map marked_of ws.items))) (section_after s (lines_of (map marked_of ws.items))))
    → AreMarked old m → AreMarked new (settled m)
settles old new m ws is none gathers h = record {
  waiting = ap (map marked_of) none;
  gathered = λ says all.
      let ls = lines_of m.settled in
      let they : map marked_of ws.items ≡ m.waiting = ap (λ v. map marked_of v.items) is ∙ h.waiting in
      let then = subst (All (Agrees says)) (sym they) (all_then (Agrees says) m.settled m.waiting all) in
      gathered_on says new.gathering m.settled m.waiting
      (subst (λ ms. IsGathered says new.gathering (ended_after first ls ++ ended_after (section_after first ls) (lines_of ms)) (section_after (section_after first ls) (lines_of ms))) they
      (gathers says (ended_after first ls) (section_after first ls) then (h.gathered says (all_first (Agrees says) m.settled m.waiting all))));
}

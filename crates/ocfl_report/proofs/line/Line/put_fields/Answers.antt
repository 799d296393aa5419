use Rattle.std.proofs.Common.{◌+◌, ◌<◌, [], ◌∷◌, ◌++◌, ◌∙◌, ap, subst, length}
use Rattle.std.specs.Prelude.{vec_len, vec_capacity}
use Rattle.std.proofs.Transfers.{starts_with_of_append, starts_with_of_eq, starts_with_trans}
use Rattle.ocfl_report.specs.{Line.{line_of}, Text.{code_text, place_text, escape}}
use Rattle.ocfl_report.proofs.Growing.{grown_by, grown_on, no_room, no_room_at_first, no_room_for_byte, if_refused, line_put}
use Rattle.ocfl_report.proofs.Growing.{code_within, tab_within, place_within, second_tab_within, detail_within, feed_within}
use Rattle.ocfl_report.proofs.line.Line.put_fields.Goals as goal

pub returns-in_err-extend_from_slice-clause-begins : goal.returns-in_err-extend_from_slice-clause-begins
returns-in_err-extend_from_slice-clause-begins c =
    starts_with_of_eq _ _ c.in_err-extend_from_slice.ensures.items

pub returns-in_err-extend_from_slice-clause-full : goal.returns-in_err-extend_from_slice-clause-full
returns-in_err-extend_from_slice-clause-full c =
    let l = line_of c.args.self.now in
    let codes = c.as_bytes.ensures.value ∙ c.text.ensures in
    if_refused _ (no_room_at_first _ (length (code_text l.code)) _ c.args.out.now (ap length codes) c.in_err-extend_from_slice.ensures.full (code_within l))

pub returns-in_err-push-clause-begins : goal.returns-in_err-push-clause-begins
returns-in_err-push-clause-begins c =
    let l = line_of c.args.self.now in
    let codes = c.as_bytes.ensures.value ∙ c.text.ensures in
    let g1 = grown_by (code_text l.code) c.args.out.now c.extend_from_slice.new.self (c.in_ok-extend_from_slice.ensures.items ∙ ap (λ t. c.args.out.now.items ++ t) codes) c.in_ok-extend_from_slice.ensures.capacity in
    starts_with_trans _ _ _ (starts_with_of_eq _ _ c.in_err-push.ensures.items) g1.begins

pub returns-in_err-push-clause-full : goal.returns-in_err-push-clause-full
returns-in_err-push-clause-full c =
    let l = line_of c.args.self.now in
    let codes = c.as_bytes.ensures.value ∙ c.text.ensures in
    let g1 = grown_by (code_text l.code) c.args.out.now c.extend_from_slice.new.self (c.in_ok-extend_from_slice.ensures.items ∙ ap (λ t. c.args.out.now.items ++ t) codes) c.in_ok-extend_from_slice.ensures.capacity in
    if_refused _ (no_room_for_byte _ _ _ _ g1 c.in_err-push.ensures.full (tab_within l))

pub returns-in_err-put_text-clause-begins : goal.returns-in_err-put_text-clause-begins
returns-in_err-put_text-clause-begins c =
    let l = line_of c.args.self.now in
    let codes = c.as_bytes.ensures.value ∙ c.text.ensures in
    let g1 = grown_by (code_text l.code) c.args.out.now c.extend_from_slice.new.self (c.in_ok-extend_from_slice.ensures.items ∙ ap (λ t. c.args.out.now.items ++ t) codes) c.in_ok-extend_from_slice.ensures.capacity in
    let g2 = grown_on _ (9 ∷ []) _ _ c.push.new.self g1 c.in_ok-push.ensures.items c.in_ok-push.ensures.capacity in
    starts_with_trans _ _ _ c.in_err-put_text.ensures.begins g2.begins

pub returns-in_err-put_text-clause-full : goal.returns-in_err-put_text-clause-full
returns-in_err-put_text-clause-full c =
    let l = line_of c.args.self.now in
    let codes = c.as_bytes.ensures.value ∙ c.text.ensures in
    let g1 = grown_by (code_text l.code) c.args.out.now c.extend_from_slice.new.self (c.in_ok-extend_from_slice.ensures.items ∙ ap (λ t. c.args.out.now.items ++ t) codes) c.in_ok-extend_from_slice.ensures.capacity in
    let g2 = grown_on _ (9 ∷ []) _ _ c.push.new.self g1 c.in_ok-push.ensures.items c.in_ok-push.ensures.capacity in
    if_refused _ (no_room _ _ _ _ _ g2 c.in_err-put_text.ensures.full (place_within l))

pub returns-in_err-push-2-clause-begins : goal.returns-in_err-push-2-clause-begins
returns-in_err-push-2-clause-begins c =
    let l = line_of c.args.self.now in
    let codes = c.as_bytes.ensures.value ∙ c.text.ensures in
    let g1 = grown_by (code_text l.code) c.args.out.now c.extend_from_slice.new.self (c.in_ok-extend_from_slice.ensures.items ∙ ap (λ t. c.args.out.now.items ++ t) codes) c.in_ok-extend_from_slice.ensures.capacity in
    let g2 = grown_on _ (9 ∷ []) _ _ c.push.new.self g1 c.in_ok-push.ensures.items c.in_ok-push.ensures.capacity in
    let g3 = grown_on _ (place_text l.place) _ _ c.put_text.new.out g2 c.in_ok-put_text.ensures.ok c.in_ok-put_text.ensures.capacity in
    starts_with_trans _ _ _ (starts_with_of_eq _ _ c.in_err-push-2.ensures.items) g3.begins

pub returns-in_err-push-2-clause-full : goal.returns-in_err-push-2-clause-full
returns-in_err-push-2-clause-full c =
    let l = line_of c.args.self.now in
    let codes = c.as_bytes.ensures.value ∙ c.text.ensures in
    let g1 = grown_by (code_text l.code) c.args.out.now c.extend_from_slice.new.self (c.in_ok-extend_from_slice.ensures.items ∙ ap (λ t. c.args.out.now.items ++ t) codes) c.in_ok-extend_from_slice.ensures.capacity in
    let g2 = grown_on _ (9 ∷ []) _ _ c.push.new.self g1 c.in_ok-push.ensures.items c.in_ok-push.ensures.capacity in
    let g3 = grown_on _ (place_text l.place) _ _ c.put_text.new.out g2 c.in_ok-put_text.ensures.ok c.in_ok-put_text.ensures.capacity in
    if_refused _ (no_room_for_byte _ _ _ _ g3 c.in_err-push-2.ensures.full (second_tab_within l))

pub returns-in_err-put_escaped-clause-begins : goal.returns-in_err-put_escaped-clause-begins
returns-in_err-put_escaped-clause-begins c =
    let l = line_of c.args.self.now in
    let codes = c.as_bytes.ensures.value ∙ c.text.ensures in
    let g1 = grown_by (code_text l.code) c.args.out.now c.extend_from_slice.new.self (c.in_ok-extend_from_slice.ensures.items ∙ ap (λ t. c.args.out.now.items ++ t) codes) c.in_ok-extend_from_slice.ensures.capacity in
    let g2 = grown_on _ (9 ∷ []) _ _ c.push.new.self g1 c.in_ok-push.ensures.items c.in_ok-push.ensures.capacity in
    let g3 = grown_on _ (place_text l.place) _ _ c.put_text.new.out g2 c.in_ok-put_text.ensures.ok c.in_ok-put_text.ensures.capacity in
    let g4 = grown_on _ (9 ∷ []) _ _ c.push-2.new.self g3 c.in_ok-push-2.ensures.items c.in_ok-push-2.ensures.capacity in
    starts_with_trans _ _ _ c.in_err-put_escaped.ensures.begins g4.begins

pub returns-in_err-put_escaped-clause-full : goal.returns-in_err-put_escaped-clause-full
returns-in_err-put_escaped-clause-full c =
    let l = line_of c.args.self.now in
    let codes = c.as_bytes.ensures.value ∙ c.text.ensures in
    let g1 = grown_by (code_text l.code) c.args.out.now c.extend_from_slice.new.self (c.in_ok-extend_from_slice.ensures.items ∙ ap (λ t. c.args.out.now.items ++ t) codes) c.in_ok-extend_from_slice.ensures.capacity in
    let g2 = grown_on _ (9 ∷ []) _ _ c.push.new.self g1 c.in_ok-push.ensures.items c.in_ok-push.ensures.capacity in
    let g3 = grown_on _ (place_text l.place) _ _ c.put_text.new.out g2 c.in_ok-put_text.ensures.ok c.in_ok-put_text.ensures.capacity in
    let g4 = grown_on _ (9 ∷ []) _ _ c.push-2.new.self g3 c.in_ok-push-2.ensures.items c.in_ok-push-2.ensures.capacity in
    let details = c.as_bytes-2.ensures.value in
    if_refused _ (no_room _ _ _ _ _ g4 (subst (λ t. vec_capacity c.push-2.new.self < vec_len c.push-2.new.self + length (escape t)) details c.in_err-put_escaped.ensures.full) (detail_within l))

pub returns-in_err-push-3-clause-begins : goal.returns-in_err-push-3-clause-begins
returns-in_err-push-3-clause-begins c =
    let l = line_of c.args.self.now in
    let codes = c.as_bytes.ensures.value ∙ c.text.ensures in
    let g1 = grown_by (code_text l.code) c.args.out.now c.extend_from_slice.new.self (c.in_ok-extend_from_slice.ensures.items ∙ ap (λ t. c.args.out.now.items ++ t) codes) c.in_ok-extend_from_slice.ensures.capacity in
    let g2 = grown_on _ (9 ∷ []) _ _ c.push.new.self g1 c.in_ok-push.ensures.items c.in_ok-push.ensures.capacity in
    let g3 = grown_on _ (place_text l.place) _ _ c.put_text.new.out g2 c.in_ok-put_text.ensures.ok c.in_ok-put_text.ensures.capacity in
    let g4 = grown_on _ (9 ∷ []) _ _ c.push-2.new.self g3 c.in_ok-push-2.ensures.items c.in_ok-push-2.ensures.capacity in
    let details = c.as_bytes-2.ensures.value in
    let g5 = grown_on _ (escape l.detail) _ _ c.put_escaped.new.out g4 (c.in_ok-put_escaped.ensures.ok ∙ ap (λ t. c.push-2.new.self.items ++ escape t) details) c.in_ok-put_escaped.ensures.capacity in
    starts_with_trans _ _ _ (starts_with_of_eq _ _ c.in_err-push-3.ensures.items) g5.begins

pub returns-in_err-push-3-clause-full : goal.returns-in_err-push-3-clause-full
returns-in_err-push-3-clause-full c =
    let l = line_of c.args.self.now in
    let codes = c.as_bytes.ensures.value ∙ c.text.ensures in
    let g1 = grown_by (code_text l.code) c.args.out.now c.extend_from_slice.new.self (c.in_ok-extend_from_slice.ensures.items ∙ ap (λ t. c.args.out.now.items ++ t) codes) c.in_ok-extend_from_slice.ensures.capacity in
    let g2 = grown_on _ (9 ∷ []) _ _ c.push.new.self g1 c.in_ok-push.ensures.items c.in_ok-push.ensures.capacity in
    let g3 = grown_on _ (place_text l.place) _ _ c.put_text.new.out g2 c.in_ok-put_text.ensures.ok c.in_ok-put_text.ensures.capacity in
    let g4 = grown_on _ (9 ∷ []) _ _ c.push-2.new.self g3 c.in_ok-push-2.ensures.items c.in_ok-push-2.ensures.capacity in
    let details = c.as_bytes-2.ensures.value in
    let g5 = grown_on _ (escape l.detail) _ _ c.put_escaped.new.out g4 (c.in_ok-put_escaped.ensures.ok ∙ ap (λ t. c.push-2.new.self.items ++ escape t) details) c.in_ok-put_escaped.ensures.capacity in
    if_refused _ (no_room_for_byte _ _ _ _ g5 c.in_err-push-3.ensures.full (feed_within l))

pub returns-clause-begins : goal.returns-clause-begins
returns-clause-begins c =
    let l = line_of c.args.self.now in
    let codes = c.as_bytes.ensures.value ∙ c.text.ensures in
    let g1 = grown_by (code_text l.code) c.args.out.now c.extend_from_slice.new.self (c.in_ok-extend_from_slice.ensures.items ∙ ap (λ t. c.args.out.now.items ++ t) codes) c.in_ok-extend_from_slice.ensures.capacity in
    let g2 = grown_on _ (9 ∷ []) _ _ c.push.new.self g1 c.in_ok-push.ensures.items c.in_ok-push.ensures.capacity in
    let g3 = grown_on _ (place_text l.place) _ _ c.put_text.new.out g2 c.in_ok-put_text.ensures.ok c.in_ok-put_text.ensures.capacity in
    let g4 = grown_on _ (9 ∷ []) _ _ c.push-2.new.self g3 c.in_ok-push-2.ensures.items c.in_ok-push-2.ensures.capacity in
    let details = c.as_bytes-2.ensures.value in
    let g5 = grown_on _ (escape l.detail) _ _ c.put_escaped.new.out g4 (c.in_ok-put_escaped.ensures.ok ∙ ap (λ t. c.push-2.new.self.items ++ escape t) details) c.in_ok-put_escaped.ensures.capacity in
    starts_with_trans _ _ _ (starts_with_of_append _ _ _ c.in_ok-push-3.ensures.items) g5.begins

pub returns-clause-ok : goal.returns-clause-ok
returns-clause-ok c =
    let l = line_of c.args.self.now in
    let codes = c.as_bytes.ensures.value ∙ c.text.ensures in
    let details = c.as_bytes-2.ensures.value in
    line_put l _ _ _ _ _ _ _ (c.in_ok-extend_from_slice.ensures.items ∙ ap (λ t. c.args.out.now.items ++ t) codes) c.in_ok-push.ensures.items c.in_ok-put_text.ensures.ok c.in_ok-push-2.ensures.items
    (c.in_ok-put_escaped.ensures.ok ∙ ap (λ t. c.push-2.new.self.items ++ escape t) details) c.in_ok-push-3.ensures.items

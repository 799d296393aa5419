use Rattle.std.proofs.{Common.{◌≡◌, ◌∙◌, ap, map}, lemmas.Result.{IfOk-weaker}}
use Rattle.ocfl_messages.specs.{Finding.{finding_of}, Gravest.{gravest}, Grouped.{led_by, shown_leads}, Night.{room_of_groups}}
use Rattle.ocfl_messages.proofs.night.find_shown.Goals as goal

pub returns : goal.returns
returns c = IfOk-weaker c.led.result _ _ (λ shown h fs is.
    let kept : map finding_of c.in_ok-kept.kept.items ≡ gravest fs = c.in_ok-kept.ensures fs is in
    let leads = rw c.as_slice.ensures.value at c.in_ok-leads.ensures in
    (rw (c.as_slice-2.ensures.value, c.as_slice-3.ensures.value) at h)
    ∙ (λ j. led_by ((leads ∙ ap (shown_leads room_of_groups) kept) j) (kept j))) c.led.ensures

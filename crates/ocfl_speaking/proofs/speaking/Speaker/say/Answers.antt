use Rattle.std.proofs.Common.{◌+◌, ◌<◌, ◌^◌, map, ap, refl, subst, sym, ◌∙◌}
use Rattle.std.proofs.lemmas.Result.{IfOk-weaker}
use Rattle.ocfl_report.specs.Line.{line_of}
use Rattle.ocfl_messages.specs.{Night.{night_text, shown_findings}, Tally.{kept_count}}
use Rattle.ocfl_speaking.specs.Sifting.{IsFound, findings_in}
use Rattle.ocfl_speaking.specs.Speaking.{is_over, with_reason}
use Rattle.ocfl_speaking.proofs.{Kept.{some_kept}, Reasoned.{reasons_count}}
use Rattle.ocfl_speaking.proofs.speaking.Speaker.say.Goals as goal

pub returns : goal.returns
returns c = λ g given.
    let old = c.args.self.now in
    let known = old.known.now in
    let why = c.args.reasons.now in
    let f = subst (λ o. IsFound known o g c.in_ok-found.found c.end.new.self) c.is_over.ensures (c.in_ok-found.ensures known g given.sifted) in
    let fs = findings_in known (is_over old.names.part c.args.now) g f.lines in
    let gs = map (with_reason why) fs in
    let many = reasons_count why fs in
    let of = c.in_ok-put_reasons.ensures fs f.found in
    record {
      lines = f.lines;
      rest = f.rest;
      are = f.are;
      text = λ few. c.in_ok-text.ensures gs of (subst (λ n. n < 2 ^ 64) (sym many) few) ∙ ap (λ n. night_text n gs) c.night_of-night.ensures;
      findings = λ few. c.saturating_add-self.ensures ∙ ap (λ n. kept_count (old.findings + n)) (c.count_of.ensures gs of (subst (λ n. n < 2 ^ 64) (sym many) few) ∙ many);
      said = some_kept (λ v. v.items) (map line_of old.said.items) _ (shown_findings fs) c.find_shown-shown.result c.keep_shown.ensures.first
          (IfOk-weaker c.find_shown-shown.result _ _ (λ v tells. tells fs f.found) c.find_shown-shown.ensures);
      next = record { sifted = f.next; well = given.well };
      said_to = refl;
    }

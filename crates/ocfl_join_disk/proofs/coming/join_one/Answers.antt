use Rattle.std.proofs.Common.{◌≡◌, ◌∙◌, sym, subst, false}
use Rattle.std.specs.Prelude.{OnOk}
use Rattle.ocfl_joining.specs.Folders.{with_noted}
use Rattle.ocfl_join_disk.specs.Cycles.{said_of}
use Rattle.ocfl_join_disk.proofs.Endings.{has_ended, has_failed}
use Rattle.ocfl_join_disk.proofs.coming.join_one.Goals as goal

pub returns : goal.returns
returns g c = record {
  ended = λ told.
      let files = g.D.JoinDisk.parts in
      let state = g.D.JoinDisk.state in
      let came = c.join_on-came.result in
      let last = c.say_end-whole.new.disk in
      let cycle = c.args.asked.cycle in
      let said = subst (λ p. OnOk c.say_end-whole.result ((files last).folders ≡ with_noted (said_of p cycle c.args.asked.names ((files came.disk).folders.path cycle false) came.joined) (files came.disk).folders))
      (c.as_slice-2.ensures.value ∙ sym c.as_slice.ensures.value) (c.say_end-whole.ensures.said told) in
      has_ended c.args.separators.now c.args.facts.now c.as_slice.result.now cycle c.args.asked.made c.args.asked.names (files c.args.disk) (files c.find_parts.new.disk) (files came.disk) (files last)
      (state c.args.disk).seen (state c.find_parts.new.disk).seen (state came.disk).seen (state last).seen (g.S.Say.said c.args.out.now) (g.S.Say.said c.join_on-came.new.out) came.joined c.say_end-whole.result
      (c.as_slice.ensures.value ∙ c.in-Ok.ensures.known told) (c.find_parts.ensures.parts told) (c.find_parts.ensures.seen told) (c.join_on-came.ensures.came told) c.say_end-whole.ensures.ends said
      (c.say_end-whole.ensures.silent told) c.say_end-whole.ensures.why (c.say_end-whole.ensures.seen told);
}

pub returns-in-Err : goal.returns-in-Err
returns-in-Err g c = record {
  ended = λ told.
      let files = g.D.JoinDisk.parts in
      let state = g.D.JoinDisk.state in
      has_failed c.args.separators.now c.args.facts.now c.args.asked.cycle c.args.asked.made c.args.asked.names (files c.args.disk) (files c.find_parts.new.disk)
      (state c.args.disk).seen (state c.find_parts.new.disk).seen (g.S.Say.said c.args.out.now) c.in-Err.stop (c.find_parts.ensures.parts told) (c.find_parts.ensures.seen told) c.in-Err.ensures.why;
}

use Rattle.std.proofs.Common.{ap, map}
use Rattle.ocfl_messages.specs.Finding.{finding_of}
use Rattle.ocfl_messages.proofs.Taking.{gravest_put}
use Rattle.ocfl_messages.proofs.gravest.Gravest.shown.Goals as goal

pub returns : goal.returns
returns c = λ fs h.
    let e1 = rw c.deref.ensures.value at c.in_ok-room.ensures.all in
    let f1 = rw c.deref.ensures.value at c.in_ok-room.ensures.room in
    let e2 = rw c.deref-2.ensures.value at c.in_ok-room-2.ensures.all in
    let f2 = rw c.deref-2.ensures.value at c.in_ok-room-2.ensures.room in
    let e3 = rw c.deref-3.ensures.value at c.in_ok-room-3.ensures.all in
    let f3 = rw c.deref-3.ensures.value at c.in_ok-room-3.ensures.room in
    let e4 = rw c.deref-4.ensures.value at c.in_ok-put_first.ensures.all in
    gravest_put c.args.self.now fs _ _ _ _ _ _ _ _ h (ap (map finding_of) c.new-all.ensures.items) e1 f1 e2 f2 e3 f3 e4

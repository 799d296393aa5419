use Rattle.std.proofs.Common.{rules, ◌∙◌, ap, subst}
use Rattle.std.specs.Option.{option_map}
use Rattle.ocfl_compare.specs.Gone.{gone_text}
use Rattle.ocfl_accounts.specs.{Changes.{AreChanges}, Memory.{kept_by, kept_of}}
use Rattle.ocfl_accounts.proofs.memory.MemClosingsClosings.find.Goals as goal

pub returns-clause-finds : goal.returns-clause-finds
returns-clause-finds c = λ t.
    let folder = c.self.inside in
    let pair = c.args.pair.now in
    let changes = c.in-Ok.changes.items in
    let listed = option_map (λ places. places.items) folder.listed in
    record {
      changes = changes;
      are = subst (λ k. AreChanges k pair changes) (ap (λ f. kept_of f.content) c.self.view_is ∙ ap kept_of c.begin_call.ensures.content)
          (subst (λ held. AreChanges (kept_by held listed folder.accounts.items) pair changes) c.deref.ensures.value (c.in-Ok.ensures folder.accounts.items));
      said = (search rules, search rules);
      listed = c.in-Ok-list_of.ensures ∙ ap gone_text c.deref-2.ensures.value;
    }

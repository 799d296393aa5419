use Rattle.std.proofs.Common.{◌∙◌, sym, true, false}
use Rattle.ocfl_item.proofs.LooksCalls.{head_unknown}
use Rattle.ocfl_split.proofs.Leads.{root_leads, lower_leads, head_declared}
use Rattle.ocfl_split.proofs.directories.leads_on_from.Goals as goal

pub returns-in-Known : goal.returns-in-Known
returns-in-Known c = λ root l ordinary h. root_leads root c.args.folder.now.place c.args.folder.now.entries.items true (sym c.depth.ensures ∙ c.if-depth-eq0.true) ordinary h c.in-Known.ensures.1

pub returns-in_default : goal.returns-in_default
returns-in_default c = λ root l ordinary h. root_leads root c.args.folder.now.place c.args.folder.now.entries.items false
    (sym c.depth.ensures ∙ c.if-depth-eq0.true) ordinary h (head_unknown _ c.head_of.result c.head_of.ensures c.in_default.not-Known)

pub returns-in-Undeclared : goal.returns-in-Undeclared
returns-in-Undeclared c = λ root l ordinary h. lower_leads root c.args.folder.now.place c.args.folder.now.entries.items false
    (λ e. c.if-depth-eq0.false (c.depth.ensures ∙ e)) l ordinary h c.in-Undeclared.ensures

pub returns-in_default-matches : goal.returns-in_default-matches
returns-in_default-matches c = λ root l ordinary h. lower_leads root c.args.folder.now.place c.args.folder.now.entries.items true
    (λ e. c.if-depth-eq0.false (c.depth.ensures ∙ e)) l ordinary h (head_declared _ c.head_of-2.result c.head_of-2.ensures c.in_default-matches.not-Undeclared)

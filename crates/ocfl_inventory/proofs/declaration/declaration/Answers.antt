use Rattle.std.proofs.Common.{sym, ◌∙◌, ◌<◌, length, rules}
use Rattle.ocfl_inventory.proofs.Declarations.{index_fits, none_is, several_is, entry_counts, one_is, known_is, unknown_is}
use Rattle.ocfl_inventory.proofs.declaration.declaration.Goals as goal

pub returns-in_default-clause-declared : goal.returns-in_default-clause-declared
returns-in_default-clause-declared c = none_is c.args.level c.args.entries.now c.next_declaration.result c.next_declaration.ensures (search rules)

pub overflow_add-first : goal.overflow_add-first
overflow_add-first c =
    let h : c.in-Some.first < length c.args.entries.now = index_fits c.args.level c.args.entries.now 0 c.next_declaration.result c.in-Some.first c.next_declaration.ensures c.in-Some.is in
    search rules

pub returns-then-is_some-clause-declared : goal.returns-then-is_some-clause-declared
returns-then-is_some-clause-declared c =
    several_is c.args.level c.args.entries.now c.next_declaration.result c.next_declaration-2.result c.in-Some.first c.next_declaration.ensures c.in-Some.is
    c.next_declaration-2.ensures (sym c.is_some.ensures ∙ c.if-is_some.true)

pub offset_bounds-entries-first : goal.offset_bounds-entries-first
offset_bounds-entries-first c =
    let h : c.in-Some.first < length c.args.entries.now = index_fits c.args.level c.args.entries.now 0 c.next_declaration.result c.in-Some.first c.next_declaration.ensures c.in-Some.is in
    search rules

pub bounds-entries-first : goal.bounds-entries-first
bounds-entries-first c = index_fits c.args.level c.args.entries.now 0 c.next_declaration.result c.in-Some.first c.next_declaration.ensures c.in-Some.is

pub version_of-requires : goal.version_of-requires
version_of-requires c = entry_counts c.args.level c.args.entries.now c.next_declaration.result c.in-Some.first c.index-entries-first.result
    c.next_declaration.ensures c.in-Some.is c.index-entries-first.is

pub returns-in-Some-version_of-clause-declared : goal.returns-in-Some-version_of-clause-declared
returns-in-Some-version_of-clause-declared c =
    known_is c.args.level c.args.entries.now c.index-entries-first.result c.version_of.result c.in-Some-version_of.version
    (one_is c.args.level c.args.entries.now c.next_declaration.result c.next_declaration-2.result c.in-Some.first c.index-entries-first.result
    c.next_declaration.ensures c.in-Some.is c.index-entries-first.is c.next_declaration-2.ensures (sym c.is_some.ensures ∙ c.if-is_some.false)) c.version_of.ensures c.in-Some-version_of.is

pub returns-in-None-clause-declared : goal.returns-in-None-clause-declared
returns-in-None-clause-declared c =
    unknown_is c.args.level c.args.entries.now c.in-Some.first c.index-entries-first.result c.version_of.result
    (index_fits c.args.level c.args.entries.now 0 c.next_declaration.result c.in-Some.first c.next_declaration.ensures c.in-Some.is) c.index-entries-first.is
    (one_is c.args.level c.args.entries.now c.next_declaration.result c.next_declaration-2.result c.in-Some.first c.index-entries-first.result
    c.next_declaration.ensures c.in-Some.is c.index-entries-first.is c.next_declaration-2.ensures (sym c.is_some.ensures ∙ c.if-is_some.false)) c.version_of.ensures c.in-None.is

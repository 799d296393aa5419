-- The members of a row of the log, as they are put into an object.
use Rattle.std.specs.Prelude.{List, [], ◌∷◌}
use Rattle.serde_json.specs.Data.{Members, boolean, number, unsigned, string, put}
use Rattle.ocfl_messages.specs.declared.log.Member.{Member}
use Rattle.ocfl_messages.specs.declared.log.Member.TheVariants.{Count, Words, Flag}

-- the members with this one, in the order of their names
abbrev pub with_member : Member → Members → Members
with_member (Count name count) ms = put name.now (number (unsigned count)) ms
with_member (Words name text) ms = put name.now (string text.now) ms
with_member (Flag name flag) ms = put name.now (boolean flag) ms

-- and with each of these
abbrev pub with_members : List Member → Members → Members
with_members [] ms = ms
with_members (m ∷ more) ms = with_members more (with_member m ms)

-- What the codes of report lines mean, in a few words, and what to do first about a finding.
use Rattle.std.specs.Prelude.{codes, if◌then◌else◌}
use Rattle.ocfl_tree.specs.Place.{Text, Place}
use Rattle.ocfl_codes.specs.Inventories.{is_version_inventory}
use Rattle.ocfl_report.specs.declared.code.Code.{Code}
use Rattle.ocfl_report.specs.declared.code.Code.TheVariants.{Clean, E001, E003, E007, E015, E017, E018, E023, E024, E025, E033, E036, E041, E058, E060, E061, E063, E064, E069, E072, E073, E076, E080, E092, E093, E096, E097, E099, E100, E101, S01, S02, S03, S04, S05, S06, S07, S08, S09}

-- what is so of the place of a line with this code
abbrev pub meaning_of : Code → Text
meaning_of Clean = codes "nothing was found"
meaning_of E001 = codes "not allowed in an object's folder"
meaning_of E003 = codes "several declarations, so nothing in it was looked at"
meaning_of E007 = codes "its declaration has wrong bytes"
meaning_of E015 = codes "not allowed in a version's folder"
meaning_of E017 = codes "its content folder's name has a slash, so nothing in it was looked at"
meaning_of E018 = codes "its content folder is called . or .., so nothing in it was looked at"
meaning_of E023 = codes "not in the inventory"
meaning_of E024 = codes "an empty folder"
meaning_of E025 = codes "its digest algorithm cannot be used, so nothing in it was looked at"
meaning_of E033 = codes "its inventory is not JSON, so nothing in it was looked at"
meaning_of E036 = codes "its inventory names no digest algorithm, so nothing in it was looked at"
meaning_of E041 = codes "its inventory has no manifest, so nothing in it was looked at"
meaning_of E058 = codes "its inventory's sidecar is missing"
meaning_of E060 = codes "its inventory and the sidecar differ"
meaning_of E061 = codes "its inventory's sidecar cannot be used"
meaning_of E063 = codes "its inventory is missing, so nothing in it was looked at"
meaning_of E064 = codes "differs from the root inventory, which is of the same version"
meaning_of E069 = codes "no declaration, so nothing was looked at"
meaning_of E072 = codes "a file outside of any object"
meaning_of E073 = codes "an empty folder where an object should be"
meaning_of E076 = codes "several declarations, so nothing was looked at"
meaning_of E080 = codes "the declaration has wrong bytes"
meaning_of E092 = codes "bytes have changed"
meaning_of E093 = codes "not the digest of the fixity block"
meaning_of E096 = codes "its manifest has a digest twice"
meaning_of E097 = codes "its fixity block has a digest twice"
meaning_of E099 = codes "its inventory has a path with an empty element, . or .."
meaning_of E100 = codes "its inventory has a path that begins or ends with a slash"
meaning_of E101 = codes "its manifest has a path twice, or one below a file"
meaning_of S01 = codes "of an unknown OCFL version, so nothing in it was looked at"
meaning_of S02 = codes "its inventory is too long, so nothing in it was looked at"
meaning_of S03 = codes "its inventory has a value of the wrong kind, so nothing in it was looked at"
meaning_of S04 = codes "a link, or something else that is neither a file nor a folder"
meaning_of S05 = codes "a folder too deep to be looked into"
meaning_of S06 = codes "its inventory has a path that no content file can have"
meaning_of S07 = codes "has an algorithm in its fixity block that is not computed"
meaning_of S08 = codes "could not be read"
meaning_of S09 = codes "what its root inventory is"

-- the same of a line at the inventory in a version directory
abbrev pub version_meaning_of : Code → Text
version_meaning_of E058 = codes "its sidecar is missing"
version_meaning_of E060 = codes "differs from its sidecar"
version_meaning_of E061 = codes "its sidecar cannot be used"
version_meaning_of c = meaning_of c

abbrev pub meaning_at : Code → Place → Text
meaning_at c p = if is_version_inventory p then version_meaning_of c else meaning_of c

-- what to do first there
abbrev pub first_step_of : Code → Text
first_step_of Clean = codes "nothing"
first_step_of E001 = codes "find out whose it is, and move it out of the object"
first_step_of E003 = codes "keep the declaration of the version that its inventory names, and move the others away"
first_step_of E007 = codes "write it again: its name after 0= and a line feed"
first_step_of E015 = codes "find out whose it is, and move it out of the object"
first_step_of E017 = codes "compare its inventory with the one in its newest version folder and with a copy"
first_step_of E018 = codes "compare its inventory with the one in its newest version folder and with a copy"
first_step_of E023 = codes "see whether a version is being written; if not, find out whose it is and move it away"
first_step_of E024 = codes "see whether files are missing from it; if not, remove it"
first_step_of E025 = codes "compare its inventory with the one in its newest version folder and with a copy"
first_step_of E033 = codes "compare its inventory with the one in its newest version folder and with a copy"
first_step_of E036 = codes "compare its inventory with the one in its newest version folder and with a copy"
first_step_of E041 = codes "compare its inventory with the one in its newest version folder and with a copy"
first_step_of E058 = codes "compare it with the one in its newest version folder, and copy that one if it is right"
first_step_of E060 = codes "look for the expected digest among the inventories of its version folders"
first_step_of E061 = codes "compare it with the one in its newest version folder, and copy that one if it is right"
first_step_of E063 = codes "compare it with the one in its newest version folder, and copy that one if it is right"
first_step_of E064 = codes "find out by a copy which of the two is right, and whether the object went back"
first_step_of E069 = codes "see whether this is the storage root and its disk is mounted"
first_step_of E072 = codes "see whether the files are those of an object, and restore its declaration"
first_step_of E073 = codes "restore the object; if it was moved on purpose, remove the folder"
first_step_of E076 = codes "keep the declaration of the storage root's version, and move the others away"
first_step_of E080 = codes "write it again: its name after 0= and a line feed"
first_step_of E092 = codes "restore the file from a copy with the expected digest"
first_step_of E093 = codes "see whether E092 is there too; if not, compare the fixity block with its source"
first_step_of E096 = codes "validate the object, and tell whoever wrote its inventory"
first_step_of E097 = codes "validate the object, and tell whoever wrote its inventory"
first_step_of E099 = codes "validate the object, and tell whoever wrote its inventory"
first_step_of E100 = codes "validate the object, and tell whoever wrote its inventory"
first_step_of E101 = codes "validate the object, and tell whoever wrote its inventory"
first_step_of S01 = codes "audit the object with a program for its version"
first_step_of S02 = codes "audit the object with another program"
first_step_of S03 = codes "compare its inventory with the one in its newest version folder and with a copy"
first_step_of S04 = codes "find out what it is, and put the file itself in its place"
first_step_of S05 = codes "audit the object with another program"
first_step_of S06 = codes "validate the object, and tell whoever wrote its inventory"
first_step_of S07 = codes "audit that digest with another program"
first_step_of S08 = codes "look at its permissions and at the kernel's log, then check it again"
first_step_of S09 = codes "nothing"

-- the same at the inventory in a version directory
abbrev pub version_step_of : Code → Text
version_step_of E058 = codes "compare it with a copy, and write its sidecar again if it is right"
version_step_of E060 = codes "compare it and its sidecar with a copy, and restore the one that has changed"
version_step_of E061 = codes "compare it with a copy, and write its sidecar again if it is right"
version_step_of c = first_step_of c

abbrev pub first_step_at : Code → Place → Text
first_step_at c p = if is_version_inventory p then version_step_of c else first_step_of c

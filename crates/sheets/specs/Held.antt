-- What a sheet holds.
use Rattle.std.specs.Prelude.{vec_items}
use Rattle.sheets.specs.declared.store.Sheet.{Sheet}
use Rattle.sheets.specs.Contents.{Contents, contents_of}

abbrev pub held : Sheet → Contents
held s = contents_of s.states s.signals (vec_items s.steps)

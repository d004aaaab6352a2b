-- The front of a file's block as the grammar has it, by the fields of the Rattle type.
use Rattle.script_fields.specs.declared.front.Front as rust
use Rattle.script_fields.specs.FileFields.{Front}

-- each field of the Rattle type, its text as bytes
abbrev pub front_view : rust.Front → Front
front_view f = record {
  path = f.path.now;
  fs = f.fs.now;
  ino = f.ino;
  generation = f.generation;
  uid = f.uid;
  gid = f.gid;
  mode = f.mode;
}

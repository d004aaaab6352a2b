-- A sketch of the code, and its parts, as one of the definitions.
use Rattle.view_layout.specs.declared.drawing.Parts.{Parts}
use Rattle.view_layout.specs.declared.drawing.Sketch.{Sketch as Fields}
use Rattle.view_layout.specs.Drawing.{Sketch}

abbrev pub sketch_in : Fields → Sketch
sketch_in s = record {
  columns = s.columns.items;
  flags = s.flags.items;
  lanes = s.lanes.items;
  seats = s.seats.items;
  bottom = s.bottom;
  events = s.events;
}

abbrev pub parts_in : Parts → Sketch
parts_in p = record {
  columns = p.columns.now;
  flags = p.flags.now;
  lanes = p.lanes.now;
  seats = p.seats.now;
  bottom = p.bottom;
  events = p.events;
}

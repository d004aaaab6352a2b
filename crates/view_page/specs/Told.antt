-- The program's own bytes of sentences and of overviews.
use Rattle.std.specs.Prelude.{ℕ, List, [], ◌∷◌, ◌++◌, codes}
use Rattle.view_page.specs.declared.told.Told.{Told}
use Rattle.view_page.specs.declared.told.Told.TheVariants as told
use Rattle.view_page.specs.declared.told.Overview.{Overview}
use Rattle.view_page.specs.declared.told.Overview.TheVariants as overview

-- the sentences below a drawing
abbrev pub told_bytes : Told → List ℕ
told_bytes told.List = codes "<ul>" ++ 10 ∷ []
told_bytes told.Plain = codes "<li>"
told_bytes told.Bad = codes "<li class=\"bad\">"
told_bytes told.Stale = codes "<li class=\"stale\">"
told_bytes told.Event = codes "event "
told_bytes told.Is = codes ": "
told_bytes told.Task = codes "task "
told_bytes told.OpenedFor = codes " opened it for "
told_bytes told.Measured = codes " while it was measured and held by "
told_bytes told.OpenedToMeasure = codes " opened it to be measured ("
told_bytes told.HeldBy = codes ") while it was held by "
told_bytes told.EntryIs = codes ": entry "
told_bytes told.ToMToU = codes " is a ToMToU violation"
told_bytes told.OpenWriters = codes " is an open-writers violation"
told_bytes told.Reading = codes "reading"
told_bytes told.Writing = codes "writing"
told_bytes told.ReadingAndWriting = codes "reading and writing"
told_bytes told.Execution = codes "execution"
told_bytes told.Use = codes "use"
told_bytes told.Holds = codes " ("
told_bytes told.Since = codes " since event "
told_bytes told.HoldsEnd = codes ")"
told_bytes told.Comma = codes ", "
told_bytes told.And = codes " and "
told_bytes told.More = codes " more"
told_bytes told.Call = codes ", call "
told_bytes told.WasTold = codes " was told <code>"
told_bytes told.CodeEnd = codes "</code>"
told_bytes told.Labelled = codes "the label was written, in call "
told_bytes told.OfTask = codes " of task "
told_bytes told.NotAsHashed = codes " read content that isn't as hashed"
told_bytes told.Writer = codes ": task "
told_bytes told.Wrote = codes " wrote at event "
told_bytes told.ItemEnd = codes "</li>" ++ 10 ∷ []
told_bytes told.MoreItems = codes "<li>and "
told_bytes told.MoreItemsEnd = codes " more</li>" ++ 10 ∷ []
told_bytes told.ListEnd = codes "</ul>" ++ 10 ∷ []

-- the overview of a long journal
abbrev pub overview_bytes : Overview → List ℕ
overview_bytes overview.Begin =
    codes "<div class=\"wide\"><svg width=\"1008\" height=\"64\" "
    ++ codes "font-size=\"10\" role=\"img\">" ++ 10 ∷ []
overview_bytes overview.Names =
    codes "<g text-anchor=\"end\" fill=\"#5f6b7a\"><text "
    ++ codes "x=\"88\" y=\"14\">readers</text>" ++ 10 ∷ []
overview_bytes overview.MoreNames =
    codes "<text x=\"88\" y=\"30\">writers</text><text "
    ++ codes "x=\"88\" y=\"46\">marks</text>" ++ 10 ∷ []
overview_bytes overview.NamesEnd = codes "<text x=\"88\" y=\"58\">drawn below</text></g>" ++ 10 ∷ []
overview_bytes overview.Readers = codes "<path fill=\"#9cc9e6\" d=\"M96 16"
overview_bytes overview.ReadersEnd = codes "V16z\"/>" ++ 10 ∷ []
overview_bytes overview.Writers = codes "<path fill=\"#f2b48a\" d=\"M96 32"
overview_bytes overview.WritersEnd = codes "V32z\"/>" ++ 10 ∷ []
overview_bytes overview.Up = codes "V"
overview_bytes overview.Along = codes "h"
overview_bytes overview.Bad = codes "<path fill=\"#b00020\" d=\""
overview_bytes overview.Label = codes "<path fill=\"#c9a400\" d=\""
overview_bytes overview.Entry = codes "<path fill=\"#007a5a\" d=\""
overview_bytes overview.At = codes "M"
overview_bytes overview.Violated = codes " 36h2v12h-2z"
overview_bytes overview.Denied = codes " 36h2v5h-2zm0 7h2v5h-2z"
overview_bytes overview.Labelled = codes " 42h2v6h-2z"
overview_bytes overview.Added = codes " 36h1v12h-1z"
overview_bytes overview.Windows = codes "<path fill=\"#3c4652\" d=\""
overview_bytes overview.Window = codes " 52h"
overview_bytes overview.Back = codes "v4h-"
overview_bytes overview.Close = codes "z"
overview_bytes overview.PathEnd = codes "\"/>" ++ 10 ∷ []
overview_bytes overview.End = codes "</svg></div>" ++ 10 ∷ []

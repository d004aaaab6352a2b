-- The program's own bytes of a drawing.
use Rattle.std.specs.Prelude.{ℕ, List, [], ◌∷◌, ◌++◌, codes}
use Rattle.view_journal.specs.declared.kinds.Freshness.{Freshness}
use Rattle.view_journal.specs.declared.kinds.Freshness.TheVariants as fresh
use Rattle.view_journal.specs.declared.items.Guide.{Guide}
use Rattle.view_journal.specs.declared.items.Guide.TheVariants as guide
use Rattle.view_journal.specs.declared.items.Look.{Look}
use Rattle.view_journal.specs.declared.items.Look.TheVariants as look
use Rattle.view_journal.specs.declared.kinds.Mark.{Mark}
use Rattle.view_journal.specs.declared.kinds.Mark.TheVariants as mark
use Rattle.view_journal.specs.declared.kinds.Note.{Note}
use Rattle.view_journal.specs.declared.kinds.Note.TheVariants as note
use Rattle.view_journal.specs.declared.items.Strip.{Strip}
use Rattle.view_journal.specs.declared.items.Strip.TheVariants as strip
use Rattle.view_journal.specs.reading.words.declared.event.Deed.{Deed}
use Rattle.view_journal.specs.reading.words.declared.event.Deed.TheVariants as deed
use Rattle.view_journal.specs.reading.words.declared.event.Kind.{Kind}
use Rattle.view_journal.specs.reading.words.declared.event.Kind.TheVariants as kind
use Rattle.view_page.specs.declared.own.Own.{Own}
use Rattle.view_page.specs.declared.own.Own.TheVariants as own
use Rattle.view_page.specs.declared.own.Side.{Side}
use Rattle.view_page.specs.declared.own.Side.TheVariants as side
use Rattle.view_page.specs.Rules.{rules}

-- the shape of a mark, around the point 0,0
abbrev pub shape : Mark → List ℕ
shape mark.Birth = codes "<circle r=\"3\" fill=\"#8a94a0\"/>"
shape mark.Opened = codes "<path d=\"M-2 -8H2V8H-2Z\" fill=\"#3c4652\"/>"
shape mark.NotOpened = codes "<path d=\"M-5 -5L5 5M5 -5L-5 5\" stroke=\"#b00020\" stroke-width=\"3\"/>"
shape mark.Checked = codes "<path d=\"M0 -7L7 0L0 7L-7 0Z\" fill=\"#fff\" stroke=\"#3c4652\"/>"
shape mark.Violated = codes "<path d=\"M0 -7L7 0L0 7L-7 0Z\" fill=\"#b00020\"/>"
shape mark.Begun = codes "<path d=\"M4 -7H-3V7H4\" fill=\"none\" stroke=\"#04573f\" stroke-width=\"2\"/>"
shape mark.Chunk = codes "<path d=\"M0 -6V6\" stroke=\"#04573f\" stroke-width=\"2\"/>"
shape mark.Granted = codes "<circle r=\"7\" fill=\"#007a5a\"/>"
shape mark.Refused =
    codes "<circle r=\"7\" fill=\"#b00020\"/>"
    ++ codes "<path d=\"M-3 -3L3 3M3 -3L-3 3\" stroke=\"#fff\" stroke-width=\"2\"/>"
shape mark.Read =
    codes "<path d=\"M-7 -7H7V7H-7Z\" fill=\"#0072b2\"/>"
    ++ codes "<text y=\"4\" fill=\"#fff\" text-anchor=\"middle\">R</text>"
shape mark.Write =
    codes "<path d=\"M-7 -7H7V7H-7Z\" fill=\"#d55e00\"/>"
    ++ codes "<text y=\"4\" fill=\"#fff\" text-anchor=\"middle\">W</text>"
shape mark.Trunc =
    codes "<path d=\"M-7 -7H7V7H-7Z\" fill=\"#d55e00\"/>"
    ++ codes "<text y=\"4\" fill=\"#fff\" text-anchor=\"middle\">T</text>"
shape mark.SetAttr =
    codes "<path d=\"M-7 -7H7V7H-7Z\" fill=\"#6b5b95\"/>"
    ++ codes "<text y=\"4\" fill=\"#fff\" text-anchor=\"middle\">A</text>"
shape mark.SetMeta =
    codes "<path d=\"M-7 -7H7V7H-7Z\" fill=\"#6b5b95\"/>"
    ++ codes "<text y=\"4\" fill=\"#fff\" text-anchor=\"middle\">M</text>"
shape mark.NotDone =
    codes "<path d=\"M-7 -7H7V7H-7Z\" fill=\"#8a94a0\"/>"
    ++ codes "<path d=\"M-4 4L4 -4\" stroke=\"#fff\"/>"
shape mark.Closed = codes "<path d=\"M-2 -8H2V8H-2Z\" fill=\"#3c4652\"/>"
shape mark.Finished = codes "<path d=\"M-4 -7H3V7H-4\" fill=\"none\" stroke=\"#04573f\" stroke-width=\"2\"/>"

-- a block begins, up to its x coordinate
abbrev pub block : Look → List ℕ
block look.Lane = codes "<rect class=\"l0\" x=\""
block look.OtherLane = codes "<rect class=\"l1\" x=\""
block look.Differs = codes "<rect class=\"differs\" x=\""
block look.Hashing = codes "<rect class=\"hash\" x=\""
block (look.Bar kind.Read) = codes "<rect rx=\"3\" class=\"b-r\" x=\""
block (look.Bar kind.Write) = codes "<rect rx=\"3\" class=\"b-w\" x=\""
block (look.Bar kind.ReadWrite) = codes "<rect rx=\"3\" class=\"b-rw\" x=\""
block (look.Bar kind.Exec) = codes "<rect rx=\"3\" class=\"b-x\" x=\""
block (look.StillOpen kind.Read) = codes "<rect rx=\"3\" class=\"b-r still\" x=\""
block (look.StillOpen kind.Write) = codes "<rect rx=\"3\" class=\"b-w still\" x=\""
block (look.StillOpen kind.ReadWrite) = codes "<rect rx=\"3\" class=\"b-rw still\" x=\""
block (look.StillOpen kind.Exec) = codes "<rect rx=\"3\" class=\"b-x still\" x=\""

-- a vertical line begins, up to its x coordinate
abbrev pub line : Guide → List ℕ
line guide.Write = codes "<path class=\"g-w\" d=\"M"
line guide.Violation = codes "<path class=\"g-v\" d=\"M"
line guide.Denial = codes "<path class=\"g-d\" d=\"M"
line guide.Added = codes "<path class=\"g-a\" d=\"M"
line guide.Parting = codes "<path class=\"g-p\" d=\"M"

-- the name of a strip
abbrev pub strip_name : Strip → List ℕ
strip_name strip.Readers = codes "<text class=\"strip\" x=\"88\" y=\"11\">readers</text>"
strip_name strip.Writers = codes "<text class=\"strip\" x=\"88\" y=\"26\">writers</text>"
strip_name strip.Execs = codes "<text class=\"strip\" x=\"88\" y=\"41\">execs</text>"
strip_name strip.Content = codes "<text class=\"strip\" x=\"88\" y=\"56\">content</text>"

-- the block of a number in a strip begins
abbrev pub count_block : Strip → List ℕ
count_block strip.Readers = codes "<rect class=\"n-r\" y=\"1\" height=\"12\" x=\""
count_block strip.Writers = codes "<rect class=\"n-w\" y=\"16\" height=\"12\" x=\""
count_block strip.Execs = codes "<rect class=\"n-x\" y=\"31\" height=\"12\" x=\""
count_block strip.Content = codes "<rect class=\"n-c\" y=\"46\" height=\"12\" x=\""

-- the line of a zero in a strip begins
abbrev pub zero_block : Strip → List ℕ
zero_block strip.Readers = codes "<rect class=\"zero\" y=\"12\" height=\"1\" x=\""
zero_block strip.Writers = codes "<rect class=\"zero\" y=\"27\" height=\"1\" x=\""
zero_block strip.Execs = codes "<rect class=\"zero\" y=\"42\" height=\"1\" x=\""
zero_block strip.Content = codes "<rect class=\"zero\" y=\"57\" height=\"1\" x=\""

-- the number in a strip begins
abbrev pub count_text : Strip → List ℕ
count_text strip.Readers = codes "<text class=\"in\" dx=\"4\" y=\"10\" x=\""
count_text strip.Writers = codes "<text class=\"in\" dx=\"4\" y=\"25\" x=\""
count_text strip.Execs = codes "<text class=\"in\" dx=\"4\" y=\"40\" x=\""
count_text strip.Content = codes "<text class=\"in\" dx=\"4\" y=\"55\" x=\""

-- the block of the content begins
abbrev pub content_block : Freshness → List ℕ
content_block fresh.NotHashed = codes "<rect class=\"c-n\" y=\"46\" height=\"12\" x=\""
content_block fresh.AsHashed = codes "<rect class=\"c-h\" y=\"46\" height=\"12\" x=\""
content_block fresh.Written = codes "<rect class=\"c-w\" y=\"46\" height=\"12\" x=\""

-- the word for the content
abbrev pub content_word : Freshness → List ℕ
content_word fresh.NotHashed = codes "\">not hashed</text>"
content_word fresh.AsHashed = codes "\">as hashed</text>"
content_word fresh.Written = codes "\">written since hashed</text>"

-- the block of a flag begins
abbrev pub flag_block : Note → List ℕ
flag_block (note.ToMToU p) = codes "<rect class=\"f-v\" rx=\"2\" height=\"14\" x=\""
flag_block (note.OpenWriters p) = codes "<rect class=\"f-v\" rx=\"2\" height=\"14\" x=\""
flag_block note.Denied = codes "<rect class=\"f-d\" rx=\"2\" height=\"14\" x=\""
flag_block note.Labelled = codes "<rect class=\"f-l\" rx=\"2\" height=\"14\" x=\""
flag_block (note.Added p) = codes "<rect class=\"f-a\" rx=\"2\" height=\"14\" x=\""
flag_block (note.Already p) = codes "<rect class=\"f-o\" rx=\"2\" height=\"14\" x=\""
flag_block note.Passed = codes "<rect class=\"f-p\" rx=\"2\" height=\"14\" x=\""

-- the text of a flag begins
abbrev pub flag_text : Note → List ℕ
flag_text (note.ToMToU p) = codes "<text class=\"f-v\" dx=\"5\" dy=\"11\" x=\""
flag_text (note.OpenWriters p) = codes "<text class=\"f-v\" dx=\"5\" dy=\"11\" x=\""
flag_text note.Denied = codes "<text class=\"f-d\" dx=\"5\" dy=\"11\" x=\""
flag_text note.Labelled = codes "<text class=\"f-l\" dx=\"5\" dy=\"11\" x=\""
flag_text (note.Added p) = codes "<text class=\"f-a\" dx=\"5\" dy=\"11\" x=\""
flag_text (note.Already p) = codes "<text class=\"f-o\" dx=\"5\" dy=\"11\" x=\""
flag_text note.Passed = codes "<text class=\"f-p\" dx=\"5\" dy=\"11\" x=\""

-- the words of a flag
abbrev pub flag_words : Note → List ℕ
flag_words (note.ToMToU p) = codes "ToMToU = entry "
flag_words (note.OpenWriters p) = codes "open-writers = entry "
flag_words note.Denied = []
flag_words note.Labelled = codes "labelled"
flag_words (note.Added p) = codes "entry "
flag_words (note.Already p) = codes "already entry "
flag_words note.Passed = codes "pass"

-- the group of an event begins, up to the number of its inode
abbrev pub group : Side → List ℕ
group side.Alone = codes "<g class=\"e\" id=\"i"
group side.First = codes "<g class=\"e\" id=\"a-i"
group side.Second = codes "<g class=\"e\" id=\"b-i"

-- the word of a deed
abbrev pub deed_word : Deed → List ℕ
deed_word deed.Birth = codes "birth"
deed_word (deed.Count a b) = codes "count"
deed_word (deed.Check a) = codes "check"
deed_word (deed.Take a) = codes "take"
deed_word (deed.Chunk a) = codes "chunk"
deed_word (deed.Finish a) = codes "finish"
deed_word (deed.Read a b c) = codes "read "
deed_word (deed.Write a b c) = codes "write "
deed_word (deed.Trunc a b) = codes "trunc "
deed_word deed.SetAttr = codes "set-attr"
deed_word deed.RemoveAttr = codes "remove-attr"
deed_word deed.SetMeta = codes "set-meta"
deed_word (deed.Close a) = codes "close"
deed_word (deed.CloseTake a) = codes "close-take"
deed_word (deed.CloseChunk a) = codes "close-chunk"
deed_word (deed.CloseFinish a) = codes "close-finish"

-- how a file is opened
abbrev pub kind_word : Kind → List ℕ
kind_word kind.Read = codes " r"
kind_word kind.Write = codes " w"
kind_word kind.ReadWrite = codes " rw"
kind_word kind.Exec = codes " x"

abbrev pub own_bytes : Own → List ℕ
own_bytes own.Svg = codes "<svg xmlns=\"http://www.w3.org/2000/svg\" class=\"tl\" width=\""
own_bytes own.SvgHeight = codes "\" height=\""
own_bytes own.SvgBox = codes "\" viewBox=\"0 -"
own_bytes own.Space = codes " "
own_bytes own.SvgOpen = codes "\">"
own_bytes own.Style = codes "<style>"
own_bytes own.StyleEnd = codes "</style>"
own_bytes own.Y = codes "\" y=\""
own_bytes own.Width = codes "\" width=\""
own_bytes own.Height = codes "\" height=\""
own_bytes own.Close = codes "\"/>"
own_bytes own.UpFrom = codes " -"
own_bytes own.DownTo = codes "V"
own_bytes own.LaneName = codes "<text class=\"lane\" x=\"88\" y=\""
own_bytes own.TaskIs = codes "\">task "
own_bytes own.TextEnd = codes "</text>"
own_bytes own.Is = codes "\">"
own_bytes own.MinusY = codes "\" y=\"-"
own_bytes own.Place = codes "-e"
own_bytes own.At = codes "\" transform=\"translate("
own_bytes own.Comma = codes ","
own_bytes own.Title = codes ")\"><title>"
own_bytes own.TitleEnd = codes "</title>"
own_bytes own.GroupEnd = codes "</g>"
own_bytes own.PlaceText = codes "<text class=\"place\" dy=\"10\" x=\""
own_bytes own.DeedText = codes "<text class=\"deed\" transform=\"translate("
own_bytes own.RedText = codes "<text class=\"deed red\" transform=\"translate("
own_bytes own.Slant = codes ") translate(4 20) rotate(-52)\">"
own_bytes own.Plus = codes "+"
own_bytes own.GapGroup = codes "<g transform=\"translate("
own_bytes own.GapBlock = codes ")\"><rect class=\"gap\" x=\"8\" y=\"-2\" width=\"74\" height=\""
own_bytes own.GapText = codes "\"/><text class=\"gap\" x=\"45\" y=\"30\">"
own_bytes own.GapEnd = codes "<tspan x=\"45\" dy=\"14\">not drawn</tspan></text></g>"
own_bytes own.ContentText = codes "<text class=\"in\" dx=\"4\" y=\"55\" x=\""
own_bytes own.PartingText = codes "<text class=\"parts\" dx=\"4\" dy=\"112\" x=\""
own_bytes own.PartingWords = codes "\">the journals part here</text>"
own_bytes own.SvgEnd = codes "</svg>" ++ 10 ∷ []
own_bytes (own.Shape m) = shape m
own_bytes (own.Block x) = block x
own_bytes (own.Line x) = line x
own_bytes (own.StripName x) = strip_name x
own_bytes (own.CountBlock x) = count_block x
own_bytes (own.ZeroBlock x) = zero_block x
own_bytes (own.CountText x) = count_text x
own_bytes (own.ContentBlock x) = content_block x
own_bytes (own.ContentWord x) = content_word x
own_bytes (own.FlagBlock x) = flag_block x
own_bytes (own.FlagText x) = flag_text x
own_bytes (own.FlagWords x) = flag_words x
own_bytes (own.Group x) = group x
own_bytes (own.DeedWord x) = deed_word x
own_bytes (own.KindWord x) = kind_word x
own_bytes own.Rules = rules

-- The sections of a page, one for each inode that it shows.
use Rattle.std.specs.Prelude.{ℕ, List, [], ◌++◌, drop, slice_get, take, Option, Some, None}
use Rattle.std.specs.List.{flat_map}
use Rattle.view_page.specs.declared.view.View.{View}
use Rattle.view_page.specs.declared.own.Side.{Side}
use Rattle.view_page.specs.journals.declared.window.Window.{Window}
use Rattle.view_page.specs.journals.reading.Report.{InodeValue}
use Rattle.view_plan.specs.Plan.{windows_in}
use Rattle.view_pages.specs.Section.{section_of, view_of}
use Rattle.view_page.specs.declared.part.Part.{Part}
use Rattle.view_plan.specs.declared.plan.Shown.{Shown}
use Rattle.view_pages.specs.declared.section.Detail.{Detail}
use Rattle.view_pages.specs.declared.section.Detail.TheVariants as detail

-- the section of an inode, if there is one
abbrev pub section_if : List ℕ → Detail → View → List Window → Option InodeValue → List Part
section_if text d view ws (Some i) = section_of text d view ws i
section_if text d view ws None = []

abbrev pub section_at : List ℕ → Detail → Side → List Shown → List InodeValue → ℕ → List Part
section_at text d s shown inodes n =
    section_if text d (view_of s n) (windows_in n shown) (slice_get inodes n)

abbrev pub sections_of : List ℕ → Detail → Side → List Shown → List InodeValue → List ℕ
    → List Part
sections_of text d s shown inodes order = flat_map (section_at text d s shown inodes) order

-- at most as many sections of a page have an overview
abbrev pub most_overviews : ℕ
most_overviews = 16

-- the sections of the inodes of these numbers, each with the windows that are its own
abbrev pub sections : List ℕ → Side → List Shown → List InodeValue → List ℕ → List Part
sections text s shown inodes order =
    sections_of text detail.Overview s shown inodes (take most_overviews order)
    ++ sections_of text detail.Windows s shown inodes (drop most_overviews order)

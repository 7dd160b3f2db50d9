-- The kinds of entries, sections and tokens that the code tells apart, as the definitions name them.
use Rattle.ldf_grammar.specs.Sizes as sizes
use Rattle.ldf_grammar.specs.Sizes.{EntryKind, Section}
use Rattle.ldf_grammar.specs.StatementForms as forms
use Rattle.ldf_grammar.specs.StatementForms.{Mark}
use Rattle.ldf_grammar.specs.declared.entry.EntryKind as entry
use Rattle.ldf_grammar.specs.declared.entry.EntryKind.TheVariants as kinds
use Rattle.ldf_grammar.specs.declared.section.Section as section
use Rattle.ldf_grammar.specs.declared.section.Section.TheVariants as sections
use Rattle.ldf_grammar.specs.declared.skipping.Mark as skipping
use Rattle.ldf_grammar.specs.declared.skipping.Mark.TheVariants as marks

abbrev pub kind_view : entry.EntryKind → EntryKind
kind_view kinds.Logical = sizes.Logical
kind_view kinds.Physical = sizes.Physical
kind_view kinds.Plain = sizes.Plain

abbrev pub section_view : section.Section → Section
section_view sections.Signals = sizes.Signals
section_view sections.Frames = sizes.Frames
section_view sections.Encodings = sizes.Encodings
section_view sections.Representations = sizes.Representations
section_view sections.Other = sizes.Other

abbrev pub mark_view : skipping.Mark → Mark
mark_view marks.Opening = forms.Opening
mark_view marks.Closing = forms.Closing
mark_view marks.End = forms.End
mark_view marks.Other = forms.Neither

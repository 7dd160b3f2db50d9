-- Lines of wants of the code as the definitions see them.
use Rattle.subscriber_text.specs.WantLines as lines
use Rattle.subscriber_text.specs.WantView.{name_of}
use Rattle.subscriber_text.specs.declared.read.WantLine.{WantLine}
use Rattle.subscriber_text.specs.declared.read.WantLine.TheVariants.{Want, OfNoBus, OtherForm}

abbrev pub line_view : WantLine → lines.WantLine
line_view (Want bus message signal) = lines.IsWant (record {
  bus = bus;
  message = name_of message;
  signal = name_of signal;
})
line_view OfNoBus = lines.OfNoBus
line_view OtherForm = lines.OtherForm

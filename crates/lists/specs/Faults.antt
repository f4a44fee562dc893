-- The number, the layer and the place of every fault.
use Rattle.std.specs.Prelude.{ℕ}
use Rattle.lists.specs.declared.faults.Fault.{Fault}
use Rattle.lists.specs.declared.faults.Fault.TheVariants.{RosterLength, BlockCheck, BlockField, EntryTooHigh, EntryRepeated, EntryUnreturned, RingTooLarge, ListsTooLarge, BufferLength, HandedLength, NoSuchSite, SiteTaken, PairNotListed, LevelUnfit, PairUnfit}
use Rattle.lists.specs.declared.faults.Layer.{Layer}
use Rattle.lists.specs.declared.faults.Layer.TheVariants.{File, Lists, Round}
use Rattle.lists.specs.declared.faults.Place.{Place}
use Rattle.lists.specs.declared.faults.Place.TheVariants.{Whole, Byte, Handed, Crew, Entry}
use Rattle.lists.specs.declared.faults.Which.TheVariants.{Only}

abbrev pub number_of : Fault → ℕ
number_of RosterLength = 1
number_of (BlockCheck b) = 2
number_of (BlockField b i) = 3
number_of (EntryTooHigh b i) = 4
number_of (EntryRepeated b i) = 5
number_of (EntryUnreturned b i) = 6
number_of RingTooLarge = 17
number_of ListsTooLarge = 16
number_of BufferLength = 21
number_of (HandedLength w) = 21
number_of (NoSuchSite w i) = 22
number_of (SiteTaken w i) = 23
number_of (PairNotListed w i) = 24
number_of (LevelUnfit i) = 25
number_of (PairUnfit i k) = 26

abbrev pub layer_of : Fault → Layer
layer_of RosterLength = File
layer_of (BlockCheck b) = File
layer_of (BlockField b i) = File
layer_of (EntryTooHigh b i) = Lists
layer_of (EntryRepeated b i) = Lists
layer_of (EntryUnreturned b i) = Lists
layer_of RingTooLarge = Lists
layer_of ListsTooLarge = Round
layer_of BufferLength = Round
layer_of (HandedLength w) = Round
layer_of (NoSuchSite w i) = Round
layer_of (SiteTaken w i) = Round
layer_of (PairNotListed w i) = Round
layer_of (LevelUnfit i) = Round
layer_of (PairUnfit i k) = Round

-- a check is the field from byte 508 on
abbrev pub where_of : Fault → Place
where_of RosterLength = Byte 0 0
where_of (BlockCheck b) = Byte b 508
where_of (BlockField b i) = Byte b i
where_of (EntryTooHigh b i) = Byte b i
where_of (EntryRepeated b i) = Byte b i
where_of (EntryUnreturned b i) = Byte b i
where_of RingTooLarge = Whole
where_of ListsTooLarge = Whole
where_of BufferLength = Whole
where_of (HandedLength w) = Handed w
where_of (NoSuchSite w i) = Crew w i
where_of (SiteTaken w i) = Crew w i
where_of (PairNotListed w i) = Crew w i
where_of (LevelUnfit i) = Crew Only i
where_of (PairUnfit i k) = Entry i k

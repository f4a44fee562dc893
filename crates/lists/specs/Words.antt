-- The words in which sides, parties and faults are told.
use Rattle.std.specs.Prelude.{ℕ, List, [], ◌++◌, codes, decimal}
use Rattle.lists.specs.Faults.{number_of, layer_of, where_of}
use Rattle.lists.specs.declared.faults.Fault.{Fault}
use Rattle.lists.specs.declared.faults.Fault.TheVariants.{RosterLength, BlockCheck, BlockField, EntryTooHigh, EntryRepeated, EntryUnreturned, RingTooLarge, ListsTooLarge, BufferLength, HandedLength, NoSuchSite, SiteTaken, PairNotListed, LevelUnfit, PairUnfit}
use Rattle.lists.specs.declared.faults.Layer.{Layer}
use Rattle.lists.specs.declared.faults.Layer.TheVariants.{File, Lists, Round}
use Rattle.lists.specs.declared.faults.Place.{Place}
use Rattle.lists.specs.declared.faults.Place.TheVariants.{Whole, Byte, Handed, Crew as AtCrew, Entry}
use Rattle.lists.specs.declared.faults.Which.{Which}
use Rattle.lists.specs.declared.faults.Which.TheVariants.{Only, First, Second}
use Rattle.lists.specs.declared.parties.Party.{Party}
use Rattle.lists.specs.declared.parties.Side.{Side}
use Rattle.lists.specs.declared.parties.Side.TheVariants.{Crew, Site}

abbrev pub side_words : Side → List ℕ
side_words Crew = codes "crew"
side_words Site = codes "site"

-- a party by its side and its number
abbrev pub party_words : Party → List ℕ
party_words p = side_words p.side ++ (codes " " ++ decimal p.number)

abbrev pub layer_words : Layer → List ℕ
layer_words File = codes "file"
layer_words Lists = codes "lists"
layer_words Round = codes "round"

-- which of two plans or buffers is meant; nothing where there is only one
abbrev pub which_words : Which → List ℕ
which_words Only = []
which_words First = codes " of the first handed in"
which_words Second = codes " of the second handed in"

-- where a fault lies; nothing where it is the thing as a whole
abbrev pub place_words : Place → List ℕ
place_words Whole = []
place_words (Byte b i) = codes " at block " ++ (decimal b ++ (codes ", byte " ++ decimal i))
place_words (Handed w) = which_words w
place_words (AtCrew w i) = codes " at crew " ++ (decimal i ++ which_words w)
place_words (Entry i k) = codes " at crew " ++ (decimal i ++ (codes ", place " ++ decimal k))

-- what caused a fault
abbrev pub cause_words : Fault → List ℕ
cause_words RosterLength = codes "the length is not that of a roster with these counts"
cause_words (BlockCheck b) = codes "the check does not fit the block"
cause_words (BlockField b i) = codes "a field has a value that it may not have"
cause_words (EntryTooHigh b i) = codes "an entry names a party that does not exist"
cause_words (EntryRepeated b i) = codes "an entry names a party for the second time in its list"
cause_words (EntryUnreturned b i) = codes "an entry names a party that does not name it back"
cause_words RingTooLarge = codes "a ring has at most 500 parties a side"
cause_words ListsTooLarge = codes "the lists have more than 250 parties on a side"
cause_words BufferLength = codes "a buffer has the wrong length"
cause_words (HandedLength w) = codes "a plan or a buffer has the wrong length"
cause_words (NoSuchSite w i) = codes "the plan gives the crew a site that does not exist"
cause_words (SiteTaken w i) = codes "the plan gives the crew a site that an earlier crew has"
cause_words (PairNotListed w i) = codes "the plan gives the crew a site that it does not name"
cause_words (LevelUnfit i) = codes "the level does not fit the crew"
cause_words (PairUnfit i k) = codes "the levels do not fit the votes of this pair"

-- a fault by its number, its layer, its place and its cause
abbrev pub fault_words : Fault → List ℕ
fault_words f =
    codes "fault " ++ (decimal (number_of f) ++ (codes " (" ++ (layer_words (layer_of f) ++ (codes ")" ++ (place_words (where_of f) ++ (codes ": " ++ cause_words f))))))

-- The laws of specs/, under its names (OrderedLaws, too, is of Order), and of lists: Every, Each, Numbers, Sum, Combination, ListPart, Sublist.
-- Of loops: Filling, Searching, Counting, Numbering, Summing, Choosing, Least, Collecting, Gathering, Sifting, Mapping, Putting, Writing; see
-- docs/PROOFS.md for which loop takes which. CountLaws and UsedLaws are of counts, UniqueLaws of contracts that are equations.
pub mod CountLaws
pub mod OutcomeLaws
pub mod RefusingLaws
pub mod FillingLaws
pub mod SearchingLaws
pub mod TestLaws
pub mod ListLaws
pub mod EachLaws
pub mod EveryLaws
pub mod NumbersLaws
pub mod SumLaws
pub mod PuttingLaws
pub mod ListPartLaws
pub mod MappingLaws
pub mod CollectingLaws
pub mod GatheringLaws
pub mod CountingLaws
pub mod NumberingLaws
pub mod SummingLaws
pub mod SiftingLaws
pub mod CombinationLaws
pub mod RisingLaws
pub mod OrderLaws
pub mod OrderedLaws
pub mod SublistLaws
pub mod LeastLaws
pub mod ChoiceLaws
pub mod ChoosingLaws
pub mod UniqueLaws
pub mod FigureLaws
pub mod UsedLaws
pub mod MirrorLaws
pub mod MadeLaws
pub mod WritingLaws
pub mod ByteLaws

mod StartLemmas
pub mod RankLaws
pub mod HeldLaws
pub mod SpreadLaws
pub mod DifferenceLaws
pub mod RowsLaws
pub mod CountLaws
pub mod IndexedLaws
pub mod RepeatLaws
pub mod RangeLaws
mod OpeningLemmas
mod ShapeLemmas
mod HalvingLemmas
mod SearchLemmas
mod LoadLemmas
mod BoundLemmas
mod SetLemmas
mod RowRangeLemmas
mod SelectLemmas
mod RunLemmas
mod RangeLemmas
mod PositionLemmas
pub mod MemberLaws
mod ValueLemmas
mod PushLemmas
mod SelectedLemmas
mod IfAnyLemmas
mod BitRangeLemmas
mod InRowLemmas
mod RowsAtLemmas
mod KeptLemmas
mod TurnLemmas
mod OldStartLemmas
mod OldTestLemmas
mod OldRowLemmas
mod OldSelectLemmas
mod PartLemmas
mod LowLemmas
mod RankWordLemmas
mod RankedLemmas
mod WindowLemmas
mod WrittenLemmas
mod WalkLemmas
mod OldWalkLemmas
mod RunRowLemmas
mod RunRankLemmas
mod RunSumLemmas
mod RunSelectLemmas
mod RunHeldLemmas
mod RunPlaceLemmas
mod RunPushLemmas
mod RunTakenLemmas
mod RunOpeningLemmas
mod RankedRunLemmas
mod RunEndLemmas
mod RunGapLemmas
mod LentRunLemmas
mod StartCountLemmas
mod RunBitLemmas
mod RunMaskLemmas

mod SessionLaws
mod PairLaws
mod RowLaws
mod HearingLaws
mod PlaceLaws

pub mod ImageRowLaws
pub mod RetraceLaws
pub mod RowTreeLaws
pub mod ArcTestLaws
pub mod AssignLaws
pub mod RootedLaws

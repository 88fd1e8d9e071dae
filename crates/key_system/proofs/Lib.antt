pub mod BoundDegrees
pub mod BoundLeads
mod KnownBounds
pub mod ColumnBounds
pub mod ColumnLists
pub mod RowKeys
pub mod RowLists
pub mod SolvSigns
pub mod SolvParts
pub mod SolvFirst
pub mod SolvLeast
pub mod SolvFaults

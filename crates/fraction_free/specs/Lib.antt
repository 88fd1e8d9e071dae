pub mod RowAnswers
pub mod RoundAnswers
pub mod VectorAnswers
pub mod KernelAnswers
